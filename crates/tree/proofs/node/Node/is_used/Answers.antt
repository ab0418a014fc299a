-- The flag's word, by `node_word`.
use Rattle.tree.specs.Nodes.{used, tree_in}
use Rattle.tree.proofs.node.Node.is_used.Goals as goal

pub returns : goal.returns
unfolding used tree_in
returns c = rw c.word.ensures
