-- The search for this sort is the definition.
use Rattle.tree.specs.Tree.{lowest_free}
use Rattle.tree.proofs.index.free_index.Goals as goal

pub returns : goal.returns
unfolding lowest_free
returns c = c.lowest.ensures
