-- `sha_block::words::small0` meets its contract: one rotation of a sum does what the definition does with two. Assumes nothing.
use Rattle.sha_block.proofs.Rotations.{paired0}
use Rattle.sha_block.specs.Words.{sigma0}
use Rattle.sha_block.proofs.words.small0.Goals as goal

pub returns : goal.returns
unfolding sigma0
returns c = rw (c.rotate_right-2.ensures, c.rotate_right.ensures) (paired0 c.args.x c.ranges.x.fits)
