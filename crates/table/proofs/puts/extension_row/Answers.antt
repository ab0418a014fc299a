-- What the rest of the row gives, field by field from its end.
use mathlib.Core.Path.{◌∙◌}
use lib.ListN.{drop}
use Rattle.table.specs.Table.{extension_runs}
use Rattle.table.proofs.puts.extension_row.Goals as goal

pub returns : goal.returns
returns c =
    let a = c.args in
    let row = extension_runs a.at a.register.now in
    c.one-2.ensures (drop 3 row)
    ∙ c.copy.ensures (drop 2 row)
    ∙ c.one.ensures (drop 1 row)
    ∙ c.new.ensures row
