-- The groups put so far, before those of the number that is left.
use Rattle.journal_bytes.proofs.Writing.{Filling}
use Rattle.journal_bytes.proofs.write.put_number.Given as goal

abbrev pub invariant-loop-v : goal.invariant-loop-v
invariant-loop-v l = Filling l.initial.out l.at l.x l.out l.v l.i

abbrev pub decreases-loop-v : goal.decreases-loop-v
decreases-loop-v l = l.v
