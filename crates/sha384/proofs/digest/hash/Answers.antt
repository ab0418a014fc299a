-- `sha384::digest::hash` meets its contract: the message's whole blocks and then those that end it are the blocks of the padded message. Assumes
-- nothing.
use mathlib.Core.Path.{◌≡◌, refl, ap, ◌∙◌}
use mathlib.Core.List.{List, ◌++◌}
use Prim.Native.Nat.{ℕ, ◌-◌, ◌*◌, ◌/◌}
use native.Mathlib.Omega.{arith}
use lib.ListN.{length, take, drop, length-drop}
use lib.Seq.{take_all}
use Rattle.sha_block.specs.Blocks.{hash_value, absorbed}
use Rattle.sha_block.proofs.Hashed.{absorbed_words}
use Rattle.sha384.specs.Constants.{constants, initial_of}
use Rattle.sha384.specs.Sha384.{padding, first_six, sha384}
use Rattle.sha384.proofs.Hash.{in_two_runs}
use Rattle.sha384.proofs.digest.hash.Goals as goal

pub returns : goal.returns
unfolding constants sha384
returns c =
    let first = c in
    let m = first.args.message.now in
    let w = length m / 128 * 128 in
    let rest = take (length m - w) (drop w m) in
    let whole = first.absorb.ensures ∙ ap (λ (l : List ℕ). absorbed constants l m (length m / 128)) first.initial-h.ensures
    ∙ absorbed_words constants initial_of m (length m / 128) in
    let last : rest ≡ drop w m = take_all (length m - w) (drop w m) (omega (arith, length-drop w m)) in
    c.first_six.ensures ∙ ap (λ (l : List ℕ). first_six (hash_value l)) c.conclude.ensures
    ∙ ap first_six (in_two_runs m (rest ++ padding (length m)) _ _ (ap hash_value whole) (ap (λ (l : List ℕ). l ++ padding (length m)) last) refl)
