-- The callees, put together.
use Rattle.layout.specs.Words.{zeros}
use Rattle.making.specs.Made.{work_with}
use Rattle.boot.proofs.ready.ready_with.Goals as goal

pub returns : goal.returns
unfolding work_with zeros
returns c = rw (c.new_work.ensures, c.no_answer.ensures)
