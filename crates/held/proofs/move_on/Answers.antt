-- `move_on` meets its contract: the two words written are those of the next position. Assumes nothing.
use Rattle.flat.specs.Forms.{with_position}
use Rattle.held.proofs.move_on.Goals as goal

pub returns : goal.returns
unfolding with_position
returns c = rw (c.words_of.ensures, c.position_in.ensures)
