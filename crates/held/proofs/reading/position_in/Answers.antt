-- `position_in` meets its contract: the position of the words that it reads. Assumes nothing.
use Rattle.flat.specs.Flat.{work_of}
use Rattle.held.proofs.reading.position_in.Goals as goal

pub returns : goal.returns
unfolding work_of
returns c = rw (c.position_of.ensures, c.long_in.ensures, c.word.ensures)
