-- Every word compared is equal, or one is not.
use native.Mathlib.Nat.{zero-add}
use native.Mathlib.Omega.{arith}
use borrow.Author.Rules.{rules}
use borrow.Author.Tests.{tests}
use Prim.Native.Nat.{ℕ, ◌+◌, ◌-◌, ◌*◌, ◌<◌}
use mathlib.Core.Path.{◌≡◌, refl, sym, subst, ◌∙◌}
use mathlib.Core.Bool.{Bool, true, false}
use mathlib.Core.List.{List}
use lib.Dec.{eqb}
use lib.ListN.{length, get_or}
use Rattle.std.specs.Bool.{MatchBool}
use Rattle.std.specs.List.{AllWithin, HoldsAt, range_with_len}
use Rattle.std.proofs.lemmas.List.FromFn.{length-range_with_len, get_or-range_with_len}
use Rattle.std.proofs.lemmas.Iterator.{cases_from_all, YieldsList-from_range}
use Rattle.layout.specs.Sizes.{image_words}
use Rattle.layout.specs.Words.{le32}
use Rattle.layout.specs.Below.{all_below}
use Rattle.layout.proofs.Bounded.{all_below_law, all_fails}
use Rattle.replaying.specs.Report.{compared_at}
use Rattle.inspection.specs.Stages.{same_from}
use Rattle.inspection.proofs.finish.same.Goals as goal

-- word k compared is the same in both images
abbrev same_at : List ℕ → List ℕ → ℕ → Bool
same_at saved scratch k = eqb (le32 saved (4 * (compared_at + k))) (get_or scratch (compared_at + k) 0)

by_cases : (r : Bool) (p : ℕ → Bool) (n : ℕ)
    → MatchBool r (AllWithin (λ k. p k ≡ true) (range_with_len 0 n) 0 (length (range_with_len 0 n)))
    ((k : ℕ) × (k < length (range_with_len 0 n)) × HoldsAt (λ k. p k ≡ false) (range_with_len 0 n) k)
    → r ≡ all_below n p
by_cases true p n h =
    sym (all_below_law p n (λ k i. subst (λ (j : ℕ). p j ≡ true) (get_or-range_with_len 0 n k 0 i ∙ zero-add k) (h k 0 (omega arith) (omega (arith, i, length-range_with_len 0 n)))))
by_cases false p n h =
    let i : h.0 < n = omega (arith, h.1, length-range_with_len 0 n) in
    sym (all_fails p h.0 n (subst (λ (j : ℕ). p j ≡ false) (get_or-range_with_len 0 n h.0 0 i ∙ zero-add h.0) (h.2 0)) i)

pub returns : goal.returns
unfolding same_from
returns c =
    let s = c.args.saved.now in
    let t = c.args.scratch.now in
    by_cases c.all.result (same_at s t) (image_words - compared_at)
    (cases_from_all _ _ _ (λ k. same_at s t k ≡ true) (λ k. same_at s t k ≡ false) c.all.ensures.ran
    (YieldsList-from_range 0 (image_words - compared_at) (image_words - compared_at) refl refl) (λ x q k. search (rules, tests)) (λ x q k. search (rules, tests)))
