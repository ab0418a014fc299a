-- The locality's word.
use Rattle.tree.specs.Nodes.{tree_in}
use Rattle.tree.proofs.index.locality_at.Goals as goal

pub returns : goal.returns
unfolding tree_in
returns c = c.word_at.ensures
