-- `sha_block::words::big1` meets its contract: three rotations, one in the other, do what the definition does side by side. Assumes nothing.
use Rattle.sha_block.proofs.Rotations.{nested1}
use Rattle.sha_block.specs.Words.{Sigma1}
use Rattle.sha_block.proofs.words.big1.Goals as goal

pub returns : goal.returns
unfolding Sigma1
returns c = rw (c.rotate_right-3.ensures, c.rotate_right-2.ensures, c.rotate_right.ensures) (nested1 c.args.x c.ranges.x.fits)
