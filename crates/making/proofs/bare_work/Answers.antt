-- The three callees, put together.
use Rattle.making.specs.Made.{work_with}
use Rattle.making.proofs.bare_work.Goals as goal

pub returns : goal.returns
unfolding work_with
returns c = rw (c.new_work.ensures, c.no_answer.ensures, c.no_values.ensures)
