-- A refusal is the cut entry's, or another. Assumes nothing.
use Prim.Native.Nat.{ℕ}
use mathlib.Core.Path.{◌≡◌, refl}
use mathlib.Core.Logic.{◌⊎◌, inl, inr}
use native.Mathlib.Omega.{arith}
use Rattle.layout.specs.declared.refusals.Refusal.{Refusal}
use Rattle.layout.specs.declared.refusals.Refusal.TheVariants.{CutEntry}
use Rattle.layout.specs.Refusals.{cut_entry}

pub cut_or_not : (r : Refusal) → (r ≡ cut_entry) ⊎ (r ≡ cut_entry → ⊥)
cut_or_not CutEntry = inl refl
cut_or_not _ = inr (λ e. let z : ◌≡◌ {A = ℕ} 0 1 = cc in omega arith)
