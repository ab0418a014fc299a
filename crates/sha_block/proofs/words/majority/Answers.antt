-- `sha_block::words::majority` meets its contract: x where x and y differ from z alike, else y. Assumes nothing.
use Rattle.sha_block.proofs.Bitwise.{median}
use Rattle.sha_block.specs.Words.{Maj}
use Rattle.sha_block.proofs.words.majority.Goals as goal

pub returns : goal.returns
unfolding Maj
returns c = median c.args.x c.args.y c.args.z c.ranges.x.fits c.ranges.y.fits c.ranges.z.fits
