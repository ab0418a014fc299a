-- A handle of the array's length fills it.
use Rattle.std.proofs.Common.{◌≡◌, ◌∙◌, ap, ℕ, List, length, take_all, arith}
use Rattle.layout.specs.Sizes.{handle_bytes}
use Rattle.layout.specs.Words.{part}
use Rattle.layout.proofs.Packing.{part_within}
use Rattle.nodes.specs.Record.{handle_row}
use Rattle.grounds.proofs.handles.fresh_words.Goals as goal

filled : (a : List ℕ) → length a ≡ handle_bytes → part handle_bytes a 0 ≡ a
filled a l = part_within handle_bytes a 0 (omega (arith, l)) ∙ take_all handle_bytes a (omega (arith, l))

pub returns : goal.returns
returns c = c.handle_words.ensures ∙ ap handle_row (c.bytes_of.ensures ∙ filled c.args.fresh.now c.requires)
