-- What the rest of the row gives, field by field from its end.
use mathlib.Core.Path.{◌∙◌}
use lib.ListN.{drop}
use Rattle.table.specs.Table.{update_runs}
use Rattle.table.proofs.puts.update_row.Goals as goal

pub returns : goal.returns
returns c =
    let a = c.args in
    let row = update_runs a.root a.words.now.register.now a.words.now.journey.now a.words.now.node.now a.words.now.secret.now in
    c.one-2.ensures (drop 7 row)
    ∙ c.part-2.ensures (drop 6 row)
    ∙ c.part.ensures (drop 5 row)
    ∙ c.copy-3.ensures (drop 4 row)
    ∙ c.copy-2.ensures (drop 3 row)
    ∙ c.copy.ensures (drop 2 row)
    ∙ c.one.ensures (drop 1 row)
    ∙ c.new.ensures row
