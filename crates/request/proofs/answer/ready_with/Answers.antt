-- The callees, put together.
use Rattle.making.specs.Made.{work_with}
use Rattle.request.proofs.answer.ready_with.Goals as goal

pub returns : goal.returns
unfolding work_with
returns c = rw (c.new_work.ensures, c.sealed.ensures)
