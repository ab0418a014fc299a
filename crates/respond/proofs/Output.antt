-- The bytes of a response: those of a refusal, and those of an answer that was taken into an array of zero bytes behind the result. Assumes nothing.
use Prim.Native.Nat.{ℕ, ◌+◌, ◌-◌, ◌≤◌}
use mathlib.Core.Path.{◌≡◌, refl, sym, ap, ap₂, ◌∙◌}
use mathlib.Core.Bool.{true}
use mathlib.Core.List.{List, [], ◌++◌, append-nil}
use native.Mathlib.Omega.{arith}
use native.Mathlib.Nat.{zero-add}
use Rattle.std.specs.Prelude.{⊤, Result, Ok, Err}
use Rattle.layout.specs.declared.refusals.Refusal.{Refusal}
use lib.ListN.{length, take, drop, replicate, length-append}
use lib.Seq.{length-take-le}
use borrow.Rule.Slice.PartMut.{mid_of, put_mid}
use borrow.Author.Tests.{le-ltb}
use Rattle.layout.specs.Sizes.{answer_max}
use Rattle.layout.specs.Words.{bytes4, zeros}
use Rattle.layout.proofs.Tab.{drop_zeros}
use Rattle.work.specs.declared.Work.{Work}
use Rattle.work.specs.Entries.{finished, answer_given, answer_number, answer_buffer}
use Rattle.std.proofs.Common.{Ok}
use Rattle.work.proofs.Shape.{shaped_answer, finished_shaped}
use Rattle.opening.specs.Openings.{status_number}
use Rattle.layout.specs.declared.bytes.Bytes.{Bytes}
use Rattle.respond.specs.Program.{response_max, response_of, answer_bytes}
use Rattle.making.proofs.After.{SameAnswer}

abbrev zs : ℕ → List ℕ
zs n = replicate n 0

-- what `with_result` hands back
abbrev pub response_with : ℕ → ℕ → List ℕ → Bytes (4 + answer_max)
response_with number n space = record { len = 4 + n; bytes = bytes4 number ++ drop 4 space }

abbrev response : ℕ → List ℕ → Bytes (4 + answer_max)
response n bytes = record { len = n; bytes = bytes }

-- a refusal
pub refused_output : (w : Work) (s : Result ⊤ Refusal) (r : Refusal) → s ≡ Err r
    → response_with (status_number s) 0 (replicate response_max 0) ≡ response_of (bytes4 (status_number s) ++ answer_bytes w s)
unfolding response_of zeros
refused_output w (Ok u) r e = absurd cc
refused_output w (Err x) r e = refl

-- where the answer goes: all but the first 4 bytes
abbrev pub room : List ℕ
room = mid_of 4 (response_max - 4) (replicate response_max 0)

module _ (done : Work) (end : finished done ≡ true) where
  pub fits : done.answer_len ≤ answer_max
  fits = shaped_answer done (finished_shaped done end)

  -- a finished work's answer is taken
  pub taken : answer_given done (length room) ≡ Ok done.answer_len
  unfolding answer_given
  taken = rw (end, le-ltb answer_max done.answer_len fits)

  left_there : answer_buffer done room ≡ take done.answer_len done.answer ++ zs (answer_max - done.answer_len)
  unfolding answer_buffer answer_number answer_given
  left_there =
      let n = done.answer_len in
      rw (end, le-ltb answer_max n fits)
      (ap (λ (l : List ℕ). take n done.answer ++ l) (ap (λ (k : ℕ). drop k (zs answer_max)) (zero-add n) ∙ drop_zeros n answer_max fits))

  pub answered_output : (w : Work) → SameAnswer done w → length done.answer ≡ answer_max → (o : List ℕ) → o ≡ answer_buffer done room
      → response_with 0 done.answer_len (put_mid 4 (response_max - 4) (zs response_max) o) ≡ response_of (bytes4 0 ++ answer_bytes w (Ok tt))
  unfolding response_of zeros
  answered_output w same long o e =
      let n = done.answer_len in
      let a = take n done.answer in
      let la : length a ≡ n = length-take-le n done.answer (omega (arith, fits)) in
      let gap : answer_max - n ≡ response_max - length (bytes4 0 ++ a) = omega (arith, la) in
      ap₂ response (omega (arith, la))
      (ap (λ (l : List ℕ). bytes4 0 ++ (l ++ [])) (e ∙ left_there)
      ∙ ap (λ (l : List ℕ). bytes4 0 ++ l) (append-nil (a ++ zs (answer_max - n)) ∙ ap (λ (k : ℕ). a ++ zs k) gap))
      ∙ ap₂ (λ (k : ℕ) (b : List ℕ). response_of (bytes4 0 ++ take k b)) same.len same.bytes

pub ready_written : (w : Work) (s : Result ⊤ Refusal) → s ≡ Ok tt → bytes4 0 ++ answer_bytes w (Ok tt) ≡ bytes4 (status_number s) ++ answer_bytes w s
ready_written w s e = ap (λ (x : Result ⊤ Refusal). bytes4 (status_number x) ++ answer_bytes w x) (sym e)

-- the bytes of a response that count are among its bytes
pub response_within : (r : Bytes (4 + answer_max)) (output : List ℕ) → r ≡ response_of output → r.len ≤ length r.bytes
unfolding response_of
response_within r output e =
    let z = zeros (response_max - length output) in
    omega (arith, ap (λ (x : Bytes (4 + answer_max)). x.len) e, ap (λ (x : Bytes (4 + answer_max)). length x.bytes) e, length-append output z)
