-- The parent's word, by `node_word`.
use Rattle.tree.specs.Nodes.{parent, tree_in}
use Rattle.tree.proofs.node.Node.parent.Goals as goal

pub returns : goal.returns
unfolding parent tree_in
returns c = rw c.word.ensures
