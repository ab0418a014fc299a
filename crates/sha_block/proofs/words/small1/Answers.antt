-- `sha_block::words::small1` meets its contract: one rotation of a sum does what the definition does with two. Assumes nothing.
use Rattle.sha_block.proofs.Rotations.{paired1}
use Rattle.sha_block.specs.Words.{sigma1}
use Rattle.sha_block.proofs.words.small1.Goals as goal

pub returns : goal.returns
unfolding sigma1
returns c = rw (c.rotate_right-2.ensures, c.rotate_right.ensures) (paired1 c.args.x c.ranges.x.fits)
