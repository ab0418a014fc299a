-- The loop: what n stores of the first work leave is what n - i stores of the work at hand leave of the image at hand.
use Prim.Native.Nat.{◌-◌}
use mathlib.Core.Path.{◌≡◌}
use Rattle.making.specs.Run.{after_stores}
use Rattle.making.proofs.run.run_all.Given as goal

abbrev pub invariant-loop-i : goal.invariant-loop-i
invariant-loop-i l = after_stores l.n l.initial.at l.initial.image ≡ after_stores (l.n - l.i) l.at l.image
