-- The search among all nodes is the definition.
use Rattle.tree.specs.Tree.{node_with}
use Rattle.tree.proofs.index.handle_index.Goals as goal

pub returns : goal.returns
unfolding node_with
returns c = c.lowest_with.ensures
