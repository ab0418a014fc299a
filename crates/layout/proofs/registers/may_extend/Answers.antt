-- `may_extend` meets its contract: a return for each outcome of the first test. Assumes nothing.
use Rattle.layout.specs.Sizes.{extendable}
use Rattle.layout.proofs.Cases.{cases}
use Rattle.layout.proofs.registers.may_extend.Goals as goal

pub returns-then-register-ge-EXTEND_FIRST : goal.returns-then-register-ge-EXTEND_FIRST
unfolding extendable
returns-then-register-ge-EXTEND_FIRST c = search cases

pub returns-else-register-ge-EXTEND_FIRST : goal.returns-else-register-ge-EXTEND_FIRST
unfolding extendable
returns-else-register-ge-EXTEND_FIRST c = search cases
