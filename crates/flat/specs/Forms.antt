-- The entries' C forms over a lent buffer of words. Each is the entry's own definition, of the work that the words are (Flat), and is defined
-- for every buffer: one of another length than a work's gets a number of its own, and nothing is written. Assumes nothing.
use Rattle.std.specs.Prelude.{ℕ, ◌+◌, ⊤, Result, Ok, Err, cond, List, ◌≡◌, eqb, length, set}
use Rattle.work.specs.declared.Work.{Work}
use Rattle.work.specs.Entries.{left_of, store_result, store_image, answer_result, answer_buffer}
use Rattle.work.specs.Recorded.{taking_bytes, entry_number, entry_result, entry_buffer}
use Rattle.opening.specs.Openings.{status_number, boot_number, outcome_number}
use Rattle.opening.specs.declared.Opened.{Opened}
use Rattle.opening.specs.declared.Outcome.{Outcome}
use Rattle.flat.specs.Flat.{work_size, position_word, low_of, high_of, work_words, work_of}

-- the number of a buffer that is not as long as a work
abbrev pub wrong_work : ℕ
wrong_work = 28

-- what is answered of a buffer as long as a work, and otherwise
abbrev pub of_work : {A : Type 0} → List ℕ → A → A → A
of_work l a other = cond (eqb (length l) work_size) a other

-- ---- openings: a refused one leaves all as it was

-- of a status, whatever its refusals are
abbrev pub if_ready : {T R A : Type 0} → Result T R → A → A → A
if_ready (Ok t) a other = a
if_ready (Err r) a other = other

-- what an opening over the words `before` hands back, and what it leaves there
pub record OpensAs (before after : List ℕ) (number : ℕ) (o : Opened ⊤) : Type 0 where
  pub number_is : number ≡ of_work before (status_number o.status) wrong_work
  pub words_are : after ≡ of_work before (if_ready o.status (work_words o.work) before) before
  pub work_is : work_of after ≡ of_work before (if_ready o.status o.work (work_of before)) (work_of before)

-- the outcome's number, where there is one
abbrev pub outcome_after : {R : Type 0} → Result Outcome R → ℕ → ℕ
outcome_after (Ok o) before = outcome_number o
outcome_after (Err r) before = before

-- the same of a boot, with the outcome that it leaves
pub record BootsAs (before after : List ℕ) (outcome outcome' : ℕ) (number : ℕ) (b : Opened Outcome) : Type 0 where
  pub number_is : number ≡ of_work before (boot_number b.status) wrong_work
  pub words_are : after ≡ of_work before (if_ready b.status (work_words b.work) before) before
  pub work_is : work_of after ≡ of_work before (if_ready b.status b.work (work_of before)) (work_of before)
  pub outcome_is : outcome' ≡ of_work before (outcome_after b.status outcome) outcome

-- ---- the same of a work whose refusal is any number: it is told as it is

abbrev pub number_in : {T : Type 0} → Result T ℕ → ℕ
number_in (Ok t) = 0
number_in (Err n) = n

pub record WritesAs (before after : List ℕ) (number : ℕ) (w : Work) (s : Result ⊤ ℕ) : Type 0 where
  pub number_is : number ≡ of_work before (number_in s) wrong_work
  pub words_are : after ≡ of_work before (if_ready s (work_words w) before) before
  pub work_is : work_of after ≡ of_work before (if_ready s w (work_of before)) (work_of before)

pub record BootWritesAs (before after : List ℕ) (outcome outcome' : ℕ) (number : ℕ) (w : Work) (s : Result Outcome ℕ) : Type 0 where
  pub number_is : number ≡ of_work before (number_in s) wrong_work
  pub words_are : after ≡ of_work before (if_ready s (work_words w) before) before
  pub work_is : work_of after ≡ of_work before (if_ready s w (work_of before)) (work_of before)
  pub outcome_is : outcome' ≡ of_work before (outcome_after s outcome) outcome

-- ---- the entries over a work

unfoldable pub left_in : List ℕ → ℕ
left_in l = of_work l (left_of (work_of l)) 0

unfoldable pub store_number_in : List ℕ → List ℕ → ℕ
store_number_in l image = of_work l (store_result (work_of l) image).number wrong_work

-- the two words of the position, and no other
unfoldable pub with_position : List ℕ → ℕ → List ℕ
with_position l p = set (set l position_word (low_of p)) (position_word + 1) (high_of p)

-- a store that is made moves the position; refused, every word stays
unfoldable pub store_words : List ℕ → List ℕ → List ℕ
store_words l image = cond (eqb (store_number_in l image) 0) (with_position l (store_result (work_of l) image).work.position) l

-- so the words are the work that the store hands back
unfoldable pub store_hand : List ℕ → List ℕ → Work
store_hand l image = of_work l (store_result (work_of l) image).work (work_of l)

unfoldable pub store_image_in : List ℕ → List ℕ → List ℕ
store_image_in l image = of_work l (store_image (work_of l) image) image

unfoldable pub answer_number_in : List ℕ → List ℕ → ℕ
answer_number_in l buffer = of_work l (answer_result (work_of l) buffer).number wrong_work

-- how many bytes were written; refused, the number that stood there
unfoldable pub answer_written : List ℕ → List ℕ → ℕ → ℕ
answer_written l buffer n = cond (eqb (answer_number_in l buffer) 0) (answer_result (work_of l) buffer).written n

unfoldable pub answer_buffer_in : List ℕ → List ℕ → List ℕ
answer_buffer_in l buffer = of_work l (answer_buffer (work_of l) buffer) buffer

-- the journal entry (document 02, §3), as the answer
unfoldable pub entry_number_in : List ℕ → List ℕ → ℕ
entry_number_in l buffer = of_work l (entry_number (work_of l) (length buffer)) wrong_work

unfoldable pub entry_written : List ℕ → List ℕ → ℕ → ℕ
entry_written l buffer n = cond (eqb (entry_number_in l buffer) 0) (taking_bytes (entry_result (work_of l) buffer)) n

unfoldable pub entry_buffer_in : List ℕ → List ℕ → List ℕ
entry_buffer_in l buffer = of_work l (entry_buffer (work_of l) buffer) buffer
