-- All the bytes of the words.
use Rattle.std.proofs.Common.{rules, ◌≡◌, ◌∙◌, ◌<◌, ℕ, [], get_or, drop, sym, ap}
use Rattle.layout.specs.Sizes.{register_words}
use Rattle.layout.specs.Words.{part, zeros, bytes4, bytes48}
use Rattle.layout.proofs.Packing.{length_bytes}
use Rattle.slices.proofs.Filled.{part_filled, part_drop, part_whole}
use Rattle.packing.proofs.Flattened.{flattened}
use Rattle.packing.proofs.bytes_in.Goals as goal

pub returns : goal.returns
unfolding zeros
returns c =
    let n = register_words in
    let l = c.args.image.now in
    let at = c.args.at in
    let ws = c.part_of-words.result in
    let words : ws ≡ part n l at = c.part_of-words.ensures ∙ sym (part_filled n (drop at l)) ∙ part_drop n at l in
    let each : (i : ℕ) → i < n → get_or c.map.result i [] ≡ bytes4 (get_or ws i 0) = λ i h. let called = (c.map.ensures.items.at i 0 [] h).2 in search (rules, called.met) in
    let bytes = c.as_flattened.ensures.value ∙ flattened n c.map.result ws c.map.ensures.items.long each ∙ ap bytes48 words in
    c.bytes_of.ensures ∙ ap (λ x. part 48 x 0) bytes ∙ part_whole 48 (bytes48 (part n l at)) (length_bytes 48 (part n l at))
