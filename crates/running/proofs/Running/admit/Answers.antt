-- `running::Running::admit` meets its contract: the three refusals in their order. Assumes nothing.
use Rattle.std.proofs.Common.{rules}
use Rattle.running.specs.Running.{admitted}
use Rattle.running.proofs.Running.admit.Goals as goal

pub returns-in_err-before : goal.returns-in_err-before
unfolding admitted
returns-in_err-before c = search rules

pub returns-then-n-gt-LONGEST : goal.returns-then-n-gt-LONGEST
unfolding admitted
returns-then-n-gt-LONGEST c = search rules

pub returns-then-from-n-gt-LONGEST_TOTAL : goal.returns-then-from-n-gt-LONGEST_TOTAL
unfolding admitted
returns-then-from-n-gt-LONGEST_TOTAL c = search rules

pub returns : goal.returns
unfolding admitted
returns c = search rules
