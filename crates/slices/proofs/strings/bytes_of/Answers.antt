-- A part of bytes, with zeros past the end.
use Rattle.std.proofs.Common.{◌∙◌, drop, sym}
use Rattle.layout.specs.Words.{zeros}
use Rattle.slices.proofs.Filled.{part_filled, part_drop}
use Rattle.slices.proofs.strings.bytes_of.Goals as goal

pub returns : goal.returns
unfolding zeros
returns g c = c.part_of.ensures ∙ sym (part_filled g.row.N (drop c.args.at c.args.s.now)) ∙ part_drop g.row.N c.args.at c.args.s.now
