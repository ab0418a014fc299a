-- A bare work with another position.
use Rattle.making.specs.Made.{work_with, refused_work}
use Rattle.making.proofs.refused_work.Goals as goal

pub returns : goal.returns
unfolding work_with refused_work
returns c = rw c.bare_work-work.ensures
