-- What the entries over a work answer: stores left, one store, the answer (document 01, "Work, one word at a time" and "Numbers handed back").
-- Each is defined for every work value and every image. Assumes nothing.
use Rattle.std.specs.Prelude.{ℕ, ◌+◌, ◌-◌, Bool, cond, not, ◌&&◌, List, length, set, leb, ltb, eqb, Result, Ok, Err}
use Rattle.std.proofs.Math.Seq.{paste}
use Rattle.layout.specs.Sizes.{image_words, answer_max}
use Rattle.layout.specs.Numbers.{told_number}
use Rattle.layout.specs.declared.refusals.Refusal.{Refusal}
use Rattle.layout.specs.declared.refusals.Refusal.TheVariants.{WrongImage, StoresLeft, ShortBuffer, NoStoreLeft}
use Rattle.table.specs.Table.{Run, runs_for, put_from, number_of, index_ok}
use Rattle.table.specs.declared.Kind.{Kind}
use Rattle.table.specs.declared.Put.{Put}
use Rattle.work.specs.declared.Work.{Work}

unfoldable pub runs_of : Work → List Run
runs_of w = runs_for w.kind w.register w.journey w.node w.secret

-- the next store of a work: "one word takes one value, both fixed at opening"
unfoldable pub put_of : Work → Put
unfolding runs_of
put_of w = put_from 0 (runs_of w) w.position

-- document 01's "well shaped": indices below the number of nodes, an answer not longer than the longest, a position within the number of stores
unfoldable pub well_shaped : Work → Bool
well_shaped w = index_ok w.kind w.node && (leb w.answer_len answer_max && leb w.position (number_of w.kind))

-- the number of stores minus those made; a work that is not well shaped "reports 0 left"
unfoldable pub left_of : Work → ℕ
left_of w = cond (well_shaped w) (number_of w.kind - w.position) 0

-- a work of its parts
abbrev pub work_from : Kind → ℕ → (register journey node secret answer : List ℕ) → ℕ → (inputs : List ℕ) → Work
work_from k position register journey node secret answer n inputs =
    record {
      kind = k;
      position = position;
      register = register;
      journey = journey;
      node = node;
      secret = secret;
      answer = answer;
      answer_len = n;
      inputs = inputs;
    }

-- "hands it back": the same work with its position one store on
abbrev pub moved : Work → Work
moved w = work_from w.kind (w.position + 1) w.register w.journey w.node w.secret w.answer w.answer_len w.inputs

-- "store: 1; 9 no store left"
unfoldable pub store_given : Work → List ℕ → Result (Unit {0}) Refusal
store_given w image = cond (eqb (length image) image_words) (cond (ltb 0 (left_of w)) (Ok tt) (Err NoStoreLeft)) (Err WrongImage)

-- the same as a number; success is 0
unfoldable pub store_number : Work → List ℕ → ℕ
unfolding store_given
store_number w image = told_number (store_given w image)

-- a store's number, and the work after it
pub record Stored : Type 0 where
  pub number : ℕ
  pub work : Work

-- the number, and the work: one store on, or unchanged
unfoldable pub store_result : Work → List ℕ → Stored
store_result w image = cond (eqb (store_number w image) 0) (record { number = 0; work = moved w }) (record { number = store_number w image; work = w })

-- "exactly one store": one word takes one value and every other stays; refused, every word stays
unfoldable pub store_image : Work → List ℕ → List ℕ
store_image w image = cond (eqb (store_number w image) 0) (set image (put_of w).address (put_of w).value) image

-- "The answer may be taken only after the last store"
unfoldable pub finished : Work → Bool
finished w = well_shaped w && eqb w.position (number_of w.kind)

-- "answer: 7 stores left; 8 buffer shorter than the answer", for a buffer of n bytes; else how many bytes are written
unfoldable pub answer_given : Work → ℕ → Result ℕ Refusal
answer_given w n = cond (not (finished w)) (Err StoresLeft) (cond (ltb n w.answer_len) (Err ShortBuffer) (Ok w.answer_len))

-- the same as a number; success is 0
unfoldable pub answer_number : Work → ℕ → ℕ
unfolding answer_given
answer_number w n = told_number (answer_given w n)

-- an answer's number, and how many bytes were written
pub record Answered : Type 0 where
  pub number : ℕ
  pub written : ℕ

unfoldable pub answer_result : Work → List ℕ → Answered
answer_result w buffer = record { number = answer_number w (length buffer); written = cond (eqb (answer_number w (length buffer)) 0) w.answer_len 0 }

-- the buffer afterwards: the answer, and "bytes past the answer stay"; refused, every byte stays
unfoldable pub answer_buffer : Work → List ℕ → List ℕ
answer_buffer w buffer = cond (eqb (answer_number w (length buffer)) 0) (paste buffer 0 w.answer w.answer_len) buffer
