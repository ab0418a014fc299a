use Prim.Native.Nat.{◌+◌}
use lib.ListN.{get_or}
use borrow.Author.Rules.{rules}
use Rattle.table.specs.Table.{put}
use Rattle.table.proofs.row.Row.copy.Goals as goal

pub returns : goal.returns
returns c = let a = c.args in c.field.ensures (λ i. put (a.at + i) (get_or a.words.now i 0)) (λ i p h e. search rules)
