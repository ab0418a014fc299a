-- The handle's words are zero.
use Rattle.layout.specs.Words.{zeros}
use Rattle.nodes.proofs.measurements_row.Goals as goal

pub returns : goal.returns
unfolding zeros
returns c = c.row_of.ensures
