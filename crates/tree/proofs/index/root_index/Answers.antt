-- The search for this sort is the definition.
use Rattle.tree.specs.Tree.{root_in}
use Rattle.tree.proofs.index.root_index.Goals as goal

pub returns : goal.returns
unfolding root_in
returns c = c.lowest.ensures
