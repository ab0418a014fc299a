-- The front is copied to the start of the array, the back behind it.
use Prim.Native.Nat.{ℕ, ◌+◌, ◌-◌, ◌≤◌}
use mathlib.Core.Path.{◌≡◌, ap₂}
use mathlib.Core.List.{List, ◌++◌}
use native.Mathlib.Omega.{arith}
use lib.ListN.{length, length-append}
use Rattle.layout.specs.Words.{zeros}
use Rattle.inspection.specs.Stages.{told_max}
use Rattle.inspection.proofs.Telling.{both}
use borrow.Author.Rules.{rules}
use Rattle.inspection.proofs.finish.joined.Goals as goal

pub returns : goal.returns
unfolding zeros
returns c =
    let a = c.args.front in
    let b = c.args.back.now in
    let long : length c.args.front ≡ 12 = search rules in
    let room : 12 + length c.args.back.now ≤ told_max = omega arith in
    let l : 12 + length b ≡ length (a ++ b) = omega (arith, length-append a b) in
    rw (c.copy_from_slice.ensures.after, c.copy_from_slice-2.ensures.after)
    (ap₂ (λ (x : List ℕ) (n : ℕ). record { bytes = x; len = n }) (both told_max 12 a b long room (12 + length b - 12) (omega arith)) l)
