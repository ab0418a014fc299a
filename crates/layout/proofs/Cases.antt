-- How a function's tests decide a definition by cases. Assumes nothing.
use mathlib.Core.Path.{◌≡◌, refl, sym, ◌∙◌}
use mathlib.Core.Bool.{Bool, true, false, not, ◌&&◌}
use Prim.Native.Nat.{ℕ}
use native.Mathlib.Omega.{arith}
use borrow.Author.Rules.{rules}
use borrow.Author.Tests.{lt-ltb, le-ltb, le-leb, lt-leb, eq-eqb, ne_eqb}

-- what a callee ensures of its result, and the test on that result
pub told : {A : Type 0} {r x b : A} → r ≡ x → r ≡ b → x ≡ b
told p q = sym p ∙ q

-- the same of a test that negates the result
pub told_no : {r x : Bool} → r ≡ x → not r ≡ true → x ≡ false
told_no {r} p q = sym p ∙ negated r q
  where
    negated : (b : Bool) → not b ≡ true → b ≡ false
    negated true h = sym h
    negated false h = refl

pub told_yes : {r x : Bool} → r ≡ x → not r ≡ false → x ≡ true
told_yes {r} p q = sym p ∙ negated r q
  where
    negated : (b : Bool) → not b ≡ false → b ≡ true
    negated true h = refl
    negated false h = sym h

pub ruleset cases = (rules, lt-ltb, le-ltb, le-leb, lt-leb, eq-eqb, ne_eqb)

-- the two parts of a conjunction that holds
pub and_left : (s t : Bool) → (s && t) ≡ true → s ≡ true
and_left true t h = refl
and_left false t h = h

pub and_right : (s t : Bool) → (s && t) ≡ true → t ≡ true
and_right true t h = h
and_right false t h = let z : ◌≡◌ {A = ℕ} 0 1 = cc in absurd (omega arith)
