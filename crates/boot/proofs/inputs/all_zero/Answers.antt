-- Every byte is zero, or one of them is not.
use native.Mathlib.Omega.{arith}
use borrow.Author.Rules.{rules}
use borrow.Author.Tests.{tests, eq-eqb, ne_eqb}
use mathlib.Core.Path.{◌≡◌, sym}
use mathlib.Core.Logic.{◌≢◌}
use mathlib.Core.Bool.{Bool, true, false}
use mathlib.Core.List.{List}
use Prim.Native.Nat.{ℕ, ◌<◌}
use lib.Dec.{eqb}
use lib.ListN.{length, get_or}
use Rattle.std.specs.Bool.{MatchBool}
use Rattle.std.specs.List.{AllWithin, HoldsAt}
use Rattle.std.proofs.lemmas.Iterator.{cases_from_all, YieldsList-from_slice}
use Rattle.layout.specs.Below.{all_below}
use Rattle.layout.proofs.Bounded.{all_below_law, all_fails}
use Rattle.boot.proofs.inputs.all_zero.Goals as goal

by_cases : (r : Bool) (l : List ℕ) (n : ℕ) → length l ≡ n
    → MatchBool r (AllWithin (λ b. b ≡ 0) l 0 (length l)) ((k : ℕ) × (k < length l) × HoldsAt (λ b. b ≢ 0) l k)
    → r ≡ all_below n (λ k. eqb (get_or l k 0) 0)
by_cases true l n e h = sym (all_below_law (λ k. eqb (get_or l k 0) 0) n (λ k i. eq-eqb (get_or l k 0) 0 (h k 0 (omega arith) (omega (arith, e)))))
by_cases false l n e h = sym (all_fails (λ k. eqb (get_or l k 0) 0) h.0 n (ne_eqb (get_or l h.0 0) 0 (h.2 0)) (omega (arith, e, h.1)))

pub returns : goal.returns
returns c =
    by_cases c.all.result c.args.s.now 48 c.requires
    (cases_from_all _ _ _ (λ b. b ≡ 0) (λ b. b ≢ 0) c.all.ensures.ran (YieldsList-from_slice c.args.s.now cc)
    (λ x q k. search (rules, tests)) (λ x q k. search (rules, tests)))
