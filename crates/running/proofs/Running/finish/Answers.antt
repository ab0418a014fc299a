-- `running::Running::finish` meets its contract: the digest from the hash value on, where the counts agree. Assumes nothing.
use Rattle.std.proofs.Common.{rules}
use Rattle.running.specs.Running.{finish_result}
use Rattle.running.proofs.Running.finish.Goals as goal

pub returns-in_err-total : goal.returns-in_err-total
unfolding finish_result
returns-in_err-total c = search rules

pub returns : goal.returns
unfolding finish_result
returns c = search rules
