use Prim.Native.Nat.{◌+◌}
use lib.ListN.{get_or}
use borrow.Author.Rules.{rules}
use Rattle.layout.specs.Sizes.{node_at}
use Rattle.table.specs.Table.{put}
use Rattle.table.proofs.row.Row.part.Goals as goal

pub returns : goal.returns
returns c = let a = c.args in c.field.ensures (λ j. put (node_at a.i + a.from + j) (get_or a.node.now (a.from + j) 0)) (λ j p h e. search rules)
