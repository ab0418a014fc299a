-- `sha_block::words::big0` meets its contract: three rotations, one in the other, do what the definition does side by side. Assumes nothing.
use Rattle.sha_block.proofs.Rotations.{nested0}
use Rattle.sha_block.specs.Words.{Sigma0}
use Rattle.sha_block.proofs.words.big0.Goals as goal

pub returns : goal.returns
unfolding Sigma0
returns c = rw (c.rotate_right-3.ensures, c.rotate_right-2.ensures, c.rotate_right.ensures) (nested0 c.args.x c.ranges.x.fits)
