-- `kind_in` meets its contract: the kind of the words that it reads. Assumes nothing.
use Rattle.flat.specs.Flat.{work_of}
use Rattle.held.proofs.reading.kind_in.Goals as goal

pub returns : goal.returns
unfolding work_of
returns c = rw (c.from.ensures, c.long_in-2.ensures, c.long_in.ensures, c.word.ensures)
