-- An entry's taking through the words is that of the work that they are: what it reads are the parts of that work; the C form's clauses follow
-- by its number. Assumes nothing.
use Prim.Native.Nat.{ℕ}
use mathlib.Core.Path.{◌≡◌, ap, ap₂, ◌∙◌}
use mathlib.Core.List.{List}
use lib.ListN.{length}
use lib.Dec.{eqb}
use borrow.Author.Tests.{eq-eqb}
use Rattle.std.proofs.Common.{Result, cond}
use Rattle.layout.specs.declared.refusals.Refusal.{Refusal}
use Rattle.layout.specs.Numbers.{told_number}
use Rattle.work.specs.declared.Work.{Work}
use Rattle.work.specs.declared.lent.Lent.{Lent}
use Rattle.work.specs.Parts.{recording, lent_work}
use Rattle.work.proofs.Parts.{storing_of}
use Rattle.work.specs.Recorded.{taking_bytes, entry_result, entry_buffer}
use Rattle.work.proofs.Recorded.{recording_of, entry_told, result_recording, buffer_recording}
use Rattle.flat.specs.Flat.{work_size, work_of}
use Rattle.flat.specs.Forms.{entry_number_in, entry_written, entry_buffer_in}

-- the parts of the work, read where they stand
module _ (l : List ℕ) (x : Lent) (inputs : List ℕ) (p : lent_work x ≡ storing_of (work_of l)) (d : inputs ≡ (work_of l).inputs) where
  abbrev parts_in : Work
  parts_in = recording x.kind x.position x.answer_len x.words.node.now inputs

  parts : parts_in ≡ recording_of (work_of l)
  parts = ap₂ (λ (w : Work) (i : List ℕ). recording w.kind w.position w.answer_len w.node i) p d

  pub result_parts : (buffer : List ℕ) → entry_result parts_in buffer ≡ entry_result (work_of l) buffer
  result_parts buffer = ap (λ (w : Work). entry_result w buffer) parts ∙ result_recording (work_of l) buffer

  pub buffer_parts : (buffer : List ℕ) → entry_buffer parts_in buffer ≡ entry_buffer (work_of l) buffer
  buffer_parts buffer = ap (λ (w : Work). entry_buffer w buffer) parts ∙ buffer_recording (work_of l) buffer

-- ---- the C form's clauses

module _ (l buffer : List ℕ) (h : length l ≡ work_size) (x : Result ℕ Refusal) (r : x ≡ entry_result (work_of l) buffer) where
  pub number_in : told_number x ≡ entry_number_in l buffer
  unfolding entry_number_in
  number_in = rw (eq-eqb (length l) work_size h) (ap told_number r ∙ entry_told (work_of l) buffer)

  pub written_in : (n : ℕ) → cond (eqb (told_number x) 0) (taking_bytes x) n ≡ entry_written l buffer n
  unfolding entry_written
  written_in n = rw (← number_in) (ap (λ (y : Result ℕ Refusal). cond (eqb (told_number x) 0) (taking_bytes y) n) r)

pub buffer_in_law : (l buffer x : List ℕ) → length l ≡ work_size → x ≡ entry_buffer (work_of l) buffer → x ≡ entry_buffer_in l buffer
unfolding entry_buffer_in
buffer_in_law l buffer x h e = rw (eq-eqb (length l) work_size h) e
