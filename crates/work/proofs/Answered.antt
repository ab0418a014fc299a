-- An answer's taking by what it gives: its number and its length, where it is written and where it is refused. Assumes nothing.
use Prim.Native.Nat.{ℕ}
use mathlib.Core.Path.{◌≡◌, sym, ap}
use mathlib.Core.Bool.{Bool, true, false, not, cond}
use mathlib.Core.List.{List}
use native.Mathlib.Omega.{arith}
use lib.Dec.{ltb}
use lib.ListN.{length}
use Rattle.std.proofs.Common.{Result, Ok, Err}
use Rattle.layout.specs.Numbers.{told_number, refusal_number}
use Rattle.layout.specs.declared.refusals.Refusal.{Refusal}
use Rattle.layout.specs.declared.refusals.Refusal.TheVariants.{StoresLeft, ShortBuffer}
use Rattle.layout.proofs.Told.{refused_ne}
use Rattle.work.specs.Entries.{finished, answer_given, answer_number, answer_result}
use Rattle.work.specs.declared.Work.{Work}

abbrev pub got : Result ℕ Refusal → ℕ
got (Ok n) = n
got (Err r) = 0

length_by : (done short : Bool) (n k : ℕ) → cond (not done) (Err StoresLeft) (cond short (Err ShortBuffer) (Ok n)) ≡ Ok k → k ≡ n
length_by true true n k h = absurd (omega (arith, ap told_number h))
length_by true false n k h = sym (ap got h)
length_by false short n k h = absurd (omega (arith, ap told_number h))

module _ (w : Work) (buffer : List ℕ) {k : ℕ} (h : answer_given w (length buffer) ≡ Ok k) where
  pub given_number : answer_number w (length buffer) ≡ 0
  unfolding answer_number
  given_number = ap told_number h

  pub given_length : k ≡ w.answer_len
  unfolding answer_given
  given_length = length_by (finished w) (ltb (length buffer) w.answer_len) w.answer_len k h

  pub given_result : answer_result w buffer ≡ record { number = 0; written = k }
  unfolding answer_result
  given_result = rw (given_number, ← given_length)

module _ (w : Work) (buffer : List ℕ) {r : Refusal} (h : answer_given w (length buffer) ≡ Err r) where
  pub declined_number : answer_number w (length buffer) ≡ refusal_number r
  unfolding answer_number
  declined_number = ap told_number h

  pub declined_result : answer_result w buffer ≡ record { number = refusal_number r; written = 0 }
  unfolding answer_result
  declined_result = rw (declined_number, refused_ne r)
