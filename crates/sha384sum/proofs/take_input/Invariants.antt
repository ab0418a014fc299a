-- After each slice the state is that of the bytes that the reader gave.
use Rattle.std.proofs.Common.{◌≡◌, ◌*◌, length}
use Rattle.sha384sum.proofs.Feeding.{Read}
use Rattle.sha384sum.proofs.take_input.Given as goal

abbrev pub invariant-loop-i : goal.invariant-loop-i
invariant-loop-i g l =
    (length l.space ≡ 65280) × Read (g.R.Read.remaining l.initial.input) (g.R.Read.remaining l.input) (65280 * l.i) l.state
