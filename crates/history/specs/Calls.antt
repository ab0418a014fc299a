-- Calls and power cuts, and the machine that makes them on an image and the work in hand, by the very definitions that the entries' contracts cite
-- (document 01, "The book"). Assumes nothing.
use Rattle.std.specs.Prelude.{ℕ, Bool, true, false, cond, List, [], ◌∷◌, eqb, take, ⊤, Ok, Err}
use Rattle.std.specs.Prelude as std
use Rattle.std.proofs.Math.Option.{Option, none, some}
use Rattle.layout.specs.Numbers.{refusal_number, told_number}
use Rattle.layout.specs.declared.refusals.Refusal.{Refusal}
use Rattle.work.specs.Entries.{left_of, store_result, store_image, answer_result, answer_buffer}
use Rattle.work.specs.Recorded.{taking_bytes, entry_result, entry_buffer}
use Rattle.table.specs.declared.Kind.{Kind}
use Rattle.work.specs.declared.Work.{Work}
use Rattle.opening.specs.Tasks.{Request, BootInputs}
use Rattle.opening.specs.Openings.{open_request, open_cold_boot, open_update_boot, outcome_number}
use Rattle.opening.specs.declared.Outcome.{Outcome}

-- what a list of demand 3 has: an opening of a request or an update boot, a store, an answer or a journal entry (document 02, §3) into a buffer, a power
-- cut; "no cold boot follows"
pub data Call : Type 0 where
  request : Request → Call
  update_boot : BootInputs → (verdict : Bool) → Call
  store : Call
  answer entry : (buffer : List ℕ) → Call
  power_cut : Call

-- all that can be done to a unit: a cold boot opened, or a call
pub data Act : Type 0 where
  open_cold : BootInputs → Act
  call : Call → Act

-- what an act hands back
pub data Result : Type 0 where
  -- refused, with its number
  refusal : ℕ → Result
  -- a request is open: the kind of work with its indices, its stores left and the answer that it will give
  opened : (kind : Kind) (left : ℕ) (answer : List ℕ) → Result
  -- a boot is open: the outcome's number, the kind of work and its stores left
  booted : (outcome : ℕ) (kind : Kind) (left : ℕ) → Result
  -- a store was made: the stores left
  stored : (left : ℕ) → Result
  -- an answer was asked for: its number, the bytes written, and the buffer afterwards
  answered : (number written : ℕ) (buffer : List ℕ) → Result
  -- the same of a journal entry
  recorded : (number written : ℕ) (buffer : List ℕ) → Result
  -- with no work in hand a store, an answer or an entry does nothing
  no_work : Result
  -- the power was cut
  cut_off : Result

-- the work in hand, and whether a boot opened it
pub record Hand : Type 0 where
  pub work : Work
  pub boot : Bool

pub record Machine : Type 0 where
  pub image : List ℕ
  pub hand : Option Hand

-- a state and what the act handed back
pub record Step (S : Type 0) : Type 0 where
  pub state : S
  pub result : Result

abbrev pub with_hand : Machine → Work → Bool → Machine
with_hand m w b = record { image = m.image; hand = some (record { work = w; boot = b }) }

-- "An accepted opening's work becomes the one in hand"; a refused one changes nothing
abbrev pub after_request : Machine → Work → std.Result ⊤ Refusal → Step Machine
after_request m w (Ok u) = record { state = with_hand m w false; result = opened w.kind (left_of w) (take w.answer_len w.answer) }
after_request m w (Err r) = record { state = m; result = refusal (refusal_number r) }

abbrev pub after_boot : Machine → Work → std.Result Outcome Refusal → Step Machine
after_boot m w (Ok o) = record { state = with_hand m w true; result = booted (outcome_number o) w.kind (left_of w) }
after_boot m w (Err r) = record { state = m; result = refusal (refusal_number r) }

-- "With none in hand a store does nothing."
abbrev pub after_store : Machine → Option Hand → Step Machine
after_store m none = record { state = m; result = no_work }
after_store m (some h) =
    let r = store_result h.work m.image in
    record {
      state = record { image = store_image h.work m.image; hand = some (record { work = r.work; boot = h.boot }) };
      result = cond (eqb r.number 0) (stored (left_of r.work)) (refusal r.number);
    }

-- the answer may be taken "as often as wished": nothing changes
abbrev pub answer_taken : Option Hand → List ℕ → Result
answer_taken none buffer = no_work
answer_taken (some h) buffer = let r = answer_result h.work buffer in answered r.number r.written (answer_buffer h.work buffer)

-- a journal entry is "taken as its answer is"
abbrev pub entry_taken : Option Hand → List ℕ → Result
entry_taken none buffer = no_work
entry_taken (some h) buffer = let r = entry_result h.work buffer in recorded (told_number r) (taking_bytes r) (entry_buffer h.work buffer)

-- one call. A power cut leaves the image as it is, each store being whole, and "the work in hand goes"
unfoldable pub step : Machine → Call → Step Machine
step m (request r) = let o = open_request m.image r in after_request m o.work o.status
step m (update_boot x verdict) = let o = open_update_boot m.image x verdict in after_boot m o.work o.status
step m store = after_store m m.hand
step m (answer buffer) = record { state = m; result = answer_taken m.hand buffer }
step m (entry buffer) = record { state = m; result = entry_taken m.hand buffer }
step m power_cut = record { state = record { image = m.image; hand = none }; result = cut_off }

-- one act
abbrev pub act : Machine → Act → Step Machine
act m (open_cold x) = let o = open_cold_boot m.image x in after_boot m o.work o.status
act m (call c) = step m c

-- a list of calls or acts, each a step from the state that the one before left: the state after it, and what each handed back
abbrev pub run : {S C : Type 0} → (S → C → Step S) → S → List C → S
run f s [] = s
run f s (c ∷ cs) = run f (f s c).state cs

abbrev pub results : {S C : Type 0} → (S → C → Step S) → S → List C → List Result
results f s [] = []
results f s (c ∷ cs) = (f s c).result ∷ results f (f s c).state cs
