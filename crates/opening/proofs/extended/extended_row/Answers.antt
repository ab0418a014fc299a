-- The callees, put together.
use Rattle.opening.proofs.extended.extended_row.Goals as goal

pub returns : goal.returns
returns c = rw (c.measurements_row.ensures, c.extend.ensures)
