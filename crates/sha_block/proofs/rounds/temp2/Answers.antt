-- The two terms of the second sum of a round.
use Rattle.sha_block.specs.Rounds.{T2}
use Rattle.std.proofs.Common.{rules}
use Rattle.sha_block.proofs.rounds.temp2.Goals as goal

pub returns : goal.returns
unfolding T2
returns c = search rules
