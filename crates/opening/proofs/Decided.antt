-- How a statement about a list of rules is proved: three cases (refused, declined, none applies). Assumes nothing.
use Prim.Native.Nat.{ℕ}
use mathlib.Core.Path.{◌≡◌, refl, sym}
use mathlib.Core.Bool.{Bool, true, false, cond, not}
use mathlib.Core.List.{List, [], ◌∷◌}
use Rattle.layout.specs.declared.refusals.Refusal.{Refusal}
use Rattle.opening.specs.Tasks.{Request, Ruling, refused}
use Rattle.opening.specs.Rules.{Verdict, refuse, decline, Rule, judged, decide, Command, declined, served, ruled}

-- no rule of a list applies
abbrev pub NoneApply : List Rule → Type 0
NoneApply [] = Unit {0}
NoneApply (r ∷ rs) = (r.applies ≡ false) × NoneApply rs

-- what holds of a refusal, of a decline and, where no rule applies, of the rest holds of what the list comes to
pub decided : (P : Ruling → Type 0) (rs : List Rule) (D : ℕ → Ruling) (R : Ruling) → ((n : Refusal) → P (refused n)) → ((n : ℕ) → P (D n)) → (NoneApply rs → P R)
    → P (decide rs D R)
decided P [] D R f d o = o tt
decided P (r ∷ rs) D R f d o = go r.applies r.verdict refl (λ e. decided P rs D R f d (λ n. o (e, n)))
  where
    go : (b : Bool) (v : Verdict) → r.applies ≡ b → (r.applies ≡ false → P (decide rs D R)) → P (cond b (judged D v) (decide rs D R))
    go true (refuse n) e on = f n
    go true (decline n) e on = d n
    go false v e on = on e

-- the same of a command's request
pub ruled_decided : (P : Ruling → Type 0) (rs : List Rule) (c : Command) (r : Request)
    → ((n : Refusal) → P (refused n)) → ((n : ℕ) → P (declined n)) → (NoneApply rs → P (served c r)) → P (ruled rs c r)
ruled_decided P rs c r = decided P rs declined (served c r)

-- a rule that asks for the opposite does not apply
pub negated : (b : Bool) → not b ≡ false → b ≡ true
negated true h = refl
negated false h = sym h
