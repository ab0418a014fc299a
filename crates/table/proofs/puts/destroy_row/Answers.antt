-- The row of as many nodes as there are or fewer, field by field from its end.
use mathlib.Core.Path.{◌∙◌}
use mathlib.Core.List.{List, [], ◌∷◌}
use borrow.Author.Tests.{le-leb}
use Rattle.layout.specs.Sizes.{node_count, mark_at}
use Rattle.table.specs.Table.{Run, one, clear}
use Rattle.table.proofs.puts.destroy_row.Goals as goal

pub returns : goal.returns
returns c =
    let a = c.args in
    let end : List Run = one mark_at 1 ∷ [] in
    let middle : List Run = clear a.count a.freed.now ∷ end in
    rw (le-leb a.count node_count c.requires.count_le_node_count)
    (c.one-2.ensures [] ∙ c.clear.ensures end ∙ c.one.ensures middle ∙ c.new.ensures (one mark_at 0 ∷ middle))
