-- What the code's work in hand, act and report are to the machine of demand 3. Assumes nothing.
use Rattle.std.specs.Prelude.{◌≡◌, ℕ, cond, List, [], eqb, take, Option, Some, None}
use Rattle.std.proofs.Math.Option as math
use Rattle.table.specs.declared.Kind.{Kind}
use Rattle.table.specs.declared.Kind.TheVariants.{Nothing}
use Rattle.opening.specs.Tasks.{Request, BootInputs}
use Rattle.opening.specs.Openings.{outcome_number}
use Rattle.history.specs.Calls.{Hand, Machine, Step, request, update_boot, store, answer, entry, power_cut, Act, open_cold, call, Result, refusal, opened, booted, stored, answered, recorded, no_work, cut_off}
use Rattle.machine.specs.declared.InHand.{InHand}
use Rattle.machine.specs.declared.Report.{Report}
use Rattle.machine.specs.declared.Report.TheVariants.{Refused, Opened, Booted, Stored, Answered, Recorded, NoWork, CutOff}
use Rattle.machine.specs.declared.Made.{Made}
use Rattle.machine.specs.declared.Op.{Op}
use Rattle.machine.specs.declared.Act as declared
use Rattle.machine.specs.declared.Act.TheVariants as given
use Rattle.opening.specs.Lent.{request_in, boot_in}

-- the machine's work in hand, if there is one
unfoldable pub hand_of : Option InHand → math.Option Hand
hand_of (Some h) = math.some (record { work = h.work; boot = h.boot })
hand_of None = math.none

-- an image and the work in hand
unfoldable pub machine_of : List ℕ → Option InHand → Machine
machine_of image hand = record { image = image; hand = hand_of hand }

-- an act by its number: 0 a request, 1 an update boot, 2 a store, 3 a cold boot, 4 an answer, 5 a journal entry, any other a power cut
unfoldable pub op_of : ℕ → Op
op_of n =
    cond (eqb n 0) Op.Request
    (cond (eqb n 1) Op.UpdateBoot
    (cond (eqb n 2) Op.Store
    (cond (eqb n 3) Op.ColdBoot
    (cond (eqb n 4) Op.Answer
    (cond (eqb n 5) Op.Entry Op.PowerCut)))))

-- an act with what it takes
unfoldable pub act_in : declared.Act → List ℕ → Act
act_in (given.Request r) buffer = call (request (request_in r))
act_in (given.UpdateBoot x verdict) buffer = call (update_boot (boot_in x) verdict)
act_in given.Store buffer = call store
act_in (given.ColdBoot x) buffer = open_cold (boot_in x)
act_in given.Answer buffer = call (answer buffer)
act_in given.Entry buffer = call (entry buffer)
act_in given.PowerCut buffer = call power_cut

-- an act of these inputs; ROM's verdict stands in the request
unfoldable pub act_by : Op → Request → BootInputs → List ℕ → Act
act_by Op.Request r x buffer = call (request r)
act_by Op.UpdateBoot r x buffer = call (update_boot x r.verdict)
act_by Op.Store r x buffer = call store
act_by Op.ColdBoot r x buffer = open_cold x
act_by Op.Answer r x buffer = call (answer buffer)
act_by Op.Entry r x buffer = call (entry buffer)
act_by Op.PowerCut r x buffer = call power_cut

-- the act of a number
abbrev pub act_of : ℕ → Request → BootInputs → List ℕ → Act
act_of op r x buffer = act_by (op_of op) r x buffer

-- the kind and the answer of the work in hand; with none in hand, nothing to store and no byte
abbrev pub kind_of : Option InHand → Kind
kind_of (Some h) = h.work.kind
kind_of None = Nothing

abbrev pub answer_of : Option InHand → List ℕ
answer_of (Some h) = take h.work.answer_len h.work.answer
answer_of None = []

-- a report beside the work in hand and the buffer: kind and answer are that work's
unfoldable pub result_of : Option InHand → Report → List ℕ → Result
result_of hand (Refused n) buffer = refusal n
result_of hand (Opened n) buffer = opened (kind_of hand) n (answer_of hand)
result_of hand (Booted o n) buffer = booted (outcome_number o) (kind_of hand) n
result_of hand (Stored n) buffer = stored n
result_of hand (Answered n w) buffer = answered n w buffer
result_of hand (Recorded n w) buffer = recorded n w buffer
result_of hand NoWork buffer = no_work
result_of hand CutOff buffer = cut_off

-- what was made, with the image and the buffer afterwards: a step of the machine
unfoldable pub step_of : Made → List ℕ → List ℕ → Step Machine
step_of m image buffer = record { state = machine_of image m.hand; result = result_of m.hand m.report buffer }

-- what was made is a step that no buffer has a part in
abbrev pub Makes : Made → List ℕ → Step Machine → Type 0
Makes m image s = (buffer : List ℕ) → step_of m image buffer ≡ s

-- the buffer that a step leaves: only an answer or an entry writes it
unfoldable pub buffer_after : Result → List ℕ → List ℕ
buffer_after (refusal n) buffer = buffer
buffer_after (opened k n a) buffer = buffer
buffer_after (booted o k n) buffer = buffer
buffer_after (stored n) buffer = buffer
buffer_after (answered n w after) buffer = after
buffer_after (recorded n w after) buffer = after
buffer_after no_work buffer = buffer
buffer_after cut_off buffer = buffer
