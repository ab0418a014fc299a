-- The callees, put together.
use Rattle.layout.specs.Words.{zeros}
use Rattle.invoking.proofs.rows.child_row.Goals as goal

pub returns : goal.returns
unfolding zeros
returns c = rw c.extend-cumulative.ensures at c.node_row.ensures
