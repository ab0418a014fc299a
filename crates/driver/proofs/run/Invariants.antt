-- Each operation leaves less of the input, and no more is lent than the memory has.
use Rattle.std.proofs.Common.{length, ◌≤◌}
use Rattle.driver.specs.Run.{memory_words}
use Rattle.driver.proofs.run.Given as goal

abbrev pub invariant-loop-given : goal.invariant-loop-given
invariant-loop-given g l = l.state.words ≤ memory_words

abbrev pub decreases-loop-given : goal.decreases-loop-given
decreases-loop-given g l = length l.input.rest.now
