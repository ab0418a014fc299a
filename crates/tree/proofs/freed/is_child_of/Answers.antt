-- A used node with this parent.
use mathlib.Core.Path.{sym}
use Rattle.layout.proofs.Cases.{cases, told}
use Rattle.tree.specs.Tree.{is_child_of}
use Rattle.tree.proofs.freed.is_child_of.Goals as goal

pub returns-then-is_used : goal.returns-then-is_used
unfolding is_child_of
returns-then-is_used c = search (cases, told c.is_used.ensures c.if-is_used.true, sym c.parent.ensures)

pub returns-else-is_used : goal.returns-else-is_used
unfolding is_child_of
returns-else-is_used c = rw c.if-is_used.false (search (cases, told c.is_used.ensures c.if-is_used.false))
