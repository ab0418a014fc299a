-- Used, and with the words of the handle.
use Rattle.layout.proofs.Cases.{cases, told}
use Rattle.tree.specs.Tree.{has_handle}
use Rattle.tree.proofs.node.Node.has_handle.Goals as goal

pub returns-then-is_used : goal.returns-then-is_used
unfolding has_handle
returns-then-is_used c = rw (told c.is_used.ensures c.if-is_used.true) c.has_words.ensures

pub returns-else-is_used : goal.returns-else-is_used
unfolding has_handle
returns-else-is_used c = rw c.if-is_used.false (search (cases, told c.is_used.ensures c.if-is_used.false))
