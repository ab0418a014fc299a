use borrow.Author.Rules.{rules}
use Rattle.table.specs.Table.{put}
use Rattle.table.proofs.row.Row.one.Goals as goal

pub returns : goal.returns
returns c = let a = c.args in c.field.ensures (λ i. put a.address a.value) (λ i p h e. search rules)
