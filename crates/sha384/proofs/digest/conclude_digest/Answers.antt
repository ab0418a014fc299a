-- `sha384::digest::conclude_digest` meets its contract: the bytes past the whole blocks stand at the front of the block that is given. Assumes nothing.
use Rattle.std.proofs.Common.{List, ℕ, ◌%◌, ◌/◌, ◌++◌, length, take, ap, ◌∙◌}
use Rattle.sha_block.specs.Blocks.{hash_value, hashed}
use Rattle.sha384.specs.Constants.{constants}
use Rattle.sha384.specs.Sha384.{first_six, padding}
use Rattle.sha384.specs.Entries.{concluded}
use Rattle.sha384.proofs.digest.conclude_digest.Goals as goal

pub returns : goal.returns
unfolding concluded constants
returns c =
    let a = c.args in
    let end : ℕ → List ℕ = λ n. take (a.total % 128) a.last ++ padding n in
    c.first_six.ensures ∙ ap (λ (l : List ℕ). first_six (hash_value l)) c.conclude.ensures
    ∙ ap (λ (n : ℕ). first_six (hashed constants (hash_value a.h) (end n) (length (end n) / 128))) c.from.ensures
