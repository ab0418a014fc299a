-- An answer's taking through the words: it asks no prepared word of the work, so a work without them gives the same; the C form's clauses
-- follow from the entry's, by its number. Assumes nothing.
use Prim.Native.Nat.{ℕ}
use mathlib.Core.Path.{◌≡◌, refl, sym, ap, ◌∙◌}
use mathlib.Core.List.{List}
use lib.ListN.{length}
use lib.Dec.{eqb}
use borrow.Author.Tests.{eq-eqb}
use Rattle.std.proofs.Common.{Result, Ok, Err, cond}
use Rattle.layout.specs.declared.refusals.Refusal.{Refusal}
use Rattle.layout.specs.Numbers.{told_number}
use Rattle.work.specs.declared.Work.{Work}
use Rattle.work.specs.Entries.{Answered, well_shaped, finished, answer_given, answer_number, answer_result, answer_buffer}
use Rattle.work.specs.Recorded.{taking_bytes}
use Rattle.work.proofs.Answered.{given_result, declined_result}
use Rattle.flat.specs.Flat.{work_size, work_of, answering_of}
use Rattle.flat.specs.Forms.{answer_number_in, answer_written, answer_buffer_in}

result_same : (w : Work) (buffer : List ℕ) → answer_result (answering_of w) buffer ≡ answer_result w buffer
unfolding answering_of answer_result answer_number answer_given finished well_shaped
result_same w buffer = refl

buffer_same : (w : Work) (buffer : List ℕ) → answer_buffer (answering_of w) buffer ≡ answer_buffer w buffer
unfolding answering_of answer_buffer answer_number answer_given finished well_shaped
buffer_same w buffer = refl

-- what is given, by its number and its length
given_as : (w : Work) (buffer : List ℕ) (x : Result ℕ Refusal) → x ≡ answer_given w (length buffer)
    → record { number = told_number x; written = taking_bytes x } ≡ answer_result w buffer
given_as w buffer (Ok n) r = sym (given_result w buffer (sym r))
given_as w buffer (Err e) r = sym (declined_result w buffer (sym r))

module _ (l buffer : List ℕ) (w : Work) (x : Result ℕ Refusal) (h : length l ≡ work_size) (e : w ≡ answering_of (work_of l))
    (r : x ≡ answer_given w (length buffer)) where
  result : record { number = told_number x; written = taking_bytes x } ≡ answer_result (work_of l) buffer
  result = given_as w buffer x r ∙ ap (λ (v : Work). answer_result v buffer) e ∙ result_same (work_of l) buffer

  pub number_in : told_number x ≡ answer_number_in l buffer
  unfolding answer_number_in
  number_in = rw (eq-eqb (length l) work_size h) (ap (λ (a : Answered). a.number) result)

  pub written_in : (n : ℕ) → cond (eqb (told_number x) 0) (taking_bytes x) n ≡ answer_written l buffer n
  unfolding answer_written
  written_in n = rw (← number_in) (ap (λ (a : Answered). cond (eqb (told_number x) 0) a.written n) result)

  pub buffer_in_law : (b : List ℕ) → b ≡ answer_buffer w buffer → b ≡ answer_buffer_in l buffer
  unfolding answer_buffer_in
  buffer_in_law b p = rw (eq-eqb (length l) work_size h) (p ∙ ap (λ (v : Work). answer_buffer v buffer) e ∙ buffer_same (work_of l) buffer)
