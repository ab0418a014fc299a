-- What the rest of the row gives, field by field from its end.
use mathlib.Core.Path.{◌∙◌}
use lib.ListN.{drop}
use Rattle.table.specs.Table.{disabling_runs}
use Rattle.table.proofs.puts.disabling_row.Goals as goal

pub returns : goal.returns
returns c =
    let a = c.args in
    let row = disabling_runs in
    c.one-3.ensures (drop 4 row)
    ∙ c.fill.ensures (drop 3 row)
    ∙ c.one-2.ensures (drop 2 row)
    ∙ c.one.ensures (drop 1 row)
    ∙ c.new.ensures row
