-- The bytes and their weights.
use Rattle.std.proofs.Common.{rules}
use Rattle.slices.proofs.Numbers.{le16_is}
use Rattle.slices.proofs.little_endian.read16.Goals as goal

pub returns : goal.returns
returns c = le16_is c.args.s.now c.args.at _ (search rules)
