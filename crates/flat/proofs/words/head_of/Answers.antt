-- `head_of` meets its contract: the kind's three numbers and the two others, word by word. Assumes nothing.
use Rattle.flat.specs.Flat.{head_of}
use Rattle.flat.proofs.words.head_of.Goals as goal

pub returns : goal.returns
unfolding head_of
returns c = rw (c.words_of-4.ensures, c.words_of-3.ensures, c.words_of-2.ensures, c.words_of.ensures, c.from-coded.ensures)
