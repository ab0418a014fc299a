use Prim.Native.Nat.{◌+◌}
use borrow.Author.Rules.{rules}
use Rattle.table.specs.Table.{put}
use Rattle.table.proofs.row.Row.fill.Goals as goal

pub returns : goal.returns
returns c = let a = c.args in c.field.ensures (λ i. put (a.at + i) a.value) (λ i p h e. search rules)
