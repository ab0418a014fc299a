-- The bytes and their weights.
use Rattle.std.proofs.Common.{rules}
use Rattle.slices.proofs.Numbers.{le32_is}
use Rattle.slices.proofs.little_endian.read32.Goals as goal

pub returns : goal.returns
returns c = le32_is c.args.s.now c.args.at _ (search rules)
