-- `sha_block::rounds::sum` meets its contract: eight additions modulo 2^64, word by word. Assumes nothing.
use Rattle.std.proofs.Common.{refl}
use Rattle.sha_block.specs.Rounds.{next_hash}
use Rattle.sha_block.proofs.rounds.sum.Goals as goal

pub returns : goal.returns
unfolding next_hash
returns c = refl
