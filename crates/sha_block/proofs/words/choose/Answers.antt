-- `sha_block::words::choose` meets its contract: three operations do what the definition does with four. Assumes nothing.
use Rattle.sha_block.proofs.Select.{select}
use Rattle.sha_block.specs.Words.{Ch}
use Rattle.sha_block.proofs.words.choose.Goals as goal

pub returns : goal.returns
unfolding Ch
returns c = select 64 c.args.x c.args.y c.args.z c.ranges.x.fits c.ranges.y.fits c.ranges.z.fits
