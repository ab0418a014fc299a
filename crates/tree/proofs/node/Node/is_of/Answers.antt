-- Each arm is its sort's test.
use Rattle.tree.proofs.node.Node.is_of.Goals as goal

pub returns-in-Root : goal.returns-in-Root
returns-in-Root c = rw c.in-Root.is c.is_root.ensures

pub returns-in-Free : goal.returns-in-Free
returns-in-Free c = rw (c.in-Free.is, c.is_used.ensures)
