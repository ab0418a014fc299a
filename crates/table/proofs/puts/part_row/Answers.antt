-- What the rest of the row gives, field by field from its end.
use mathlib.Core.Path.{◌∙◌}
use lib.ListN.{drop}
use Rattle.table.specs.Table.{part_runs}
use Rattle.table.proofs.puts.part_row.Goals as goal

pub returns : goal.returns
returns c =
    let a = c.args in
    let row = part_runs a.i a.from a.words a.node.now in
    c.one-2.ensures (drop 3 row)
    ∙ c.part.ensures (drop 2 row)
    ∙ c.one.ensures (drop 1 row)
    ∙ c.new.ensures row
