-- `answer_in` meets its contract: the bytes from their word on. Assumes nothing.
use Rattle.flat.specs.Flat.{work_of}
use Rattle.held.proofs.reading.answer_in.Goals as goal

pub returns : goal.returns
unfolding work_of
returns c = c.bytes_in.ensures
