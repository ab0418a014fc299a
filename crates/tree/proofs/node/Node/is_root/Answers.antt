-- Both halves of the first word.
use Rattle.tree.specs.Tree.{is_root}
use Rattle.tree.specs.Nodes.{used, parent, tree_in}
use Rattle.tree.proofs.node.Node.is_root.Goals as goal

pub returns : goal.returns
unfolding is_root used parent tree_in
returns c = rw c.word.ensures at c.heads_root.ensures
