-- `answer_len_in` meets its contract: the length of the words that it reads. Assumes nothing.
use Rattle.flat.specs.Flat.{work_of}
use Rattle.held.proofs.reading.answer_len_in.Goals as goal

pub returns : goal.returns
unfolding work_of
returns c = c.long_in.ensures
