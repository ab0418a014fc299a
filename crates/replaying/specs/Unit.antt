-- The journal of a unit: the entries that its works give after their last stores, and what an inspector sees of it. Assumes nothing.
use Rattle.std.specs.Prelude.{ℕ, ◌+◌, ◌-◌, ◌≤◌, ◌<◌, ◌≡◌, Bool, false, cond, List, [], ◌∷◌, ◌++◌, eqb, length, get_or, take, drop}
use Rattle.std.proofs.Math.Option.{Option, none, some}
use Rattle.layout.specs.Sizes.{image_words}
use Rattle.layout.specs.Words.{zeros, bytes4, bytes8, words_at}
use Rattle.journal.specs.Entries.{journal_bytes, longest}
use Rattle.journal.specs.Statements.{Bytes}
use Rattle.work.specs.declared.Work.{Work}
use Rattle.work.specs.Recorded.{taking_bytes, entry_result, entry_buffer}
use Rattle.making.specs.Run.{all_stores}
use Rattle.opening.specs.Tasks.{BootInputs}
use Rattle.opening.specs.Recorded.{entries_for}
use Rattle.opening.specs.Openings.{open_cold_boot, boot_number}
use Rattle.history.specs.Calls.{Call, Result, refusal, opened, booted, stored, answered, recorded, no_work, cut_off, Hand, Machine, Step, step, run}
use Rattle.history.specs.Ledger.{state_of, chain_of, any, disables, ledger_step, first_ledger}
use Rattle.history.specs.Demand.{is_under_way, after_cold_boot}
use Rattle.replaying.specs.Report.{compared_at, compared_rows, image_bytes, journal_max, registers_told, output}
use Rattle.replaying.specs.Lives.{CallsOk, Life, LifeOk, LivesOk, history_of, entries_over}

-- ---- a host that keeps the journal

-- a work's entry, taken into a buffer that has room for any
abbrev pub taken_from : Work → List ℕ
taken_from w = let buffer = zeros longest in take (taking_bytes (entry_result w buffer)) (entry_buffer w buffer)

-- a store was made, and none is left
abbrev pub is_last : Result → Bool
is_last (refusal n) = false
is_last (opened k n a) = false
is_last (booted o k n) = false
is_last (stored left) = eqb left 0
is_last (answered n w buffer) = false
is_last (recorded n w buffer) = false
is_last no_work = false
is_last cut_off = false

abbrev pub in_hand : Option Hand → List ℕ
in_hand none = []
in_hand (some h) = taken_from h.work

-- what is added after a call: where it was a work's last store, that work's entry
abbrev pub added : Step Machine → List ℕ
added s = cond (is_last s.result) (in_hand s.state.hand) []

abbrev pub added_by : Machine → List Call → List ℕ
added_by m [] = []
added_by m (c ∷ cs) = added (step m c) ++ added_by (step m c).state cs

-- from a cold boot on, whose entry is taken after its last store
unfoldable pub unit_journal : List ℕ → BootInputs → List Call → List ℕ
unit_journal before x calls = taken_from (all_stores (open_cold_boot before x).work before).work ++ added_by (after_cold_boot before x) calls

-- over any list of calls and cuts: the journal of demand 3's history
abbrev pub Records : Type 0
Records =
    (before : List ℕ) (x : BootInputs) → boot_number (open_cold_boot before x).status ≡ 0 → (calls : List Call)
    → unit_journal before x calls ≡ journal_bytes (entries_for (run ledger_step (first_ledger x) calls).history)

-- ---- an inspector who is given the image and the journal

-- standard input holds a saved image, "words little endian", and then a journal that is not too long
pub record Given (input image journal : List ℕ) : Type 0 where
  pub whole : image_bytes ≤ length input
  pub words : words_at image_words input 0 ≡ image
  pub behind : drop image_bytes input ≡ journal
  pub short : length journal ≤ journal_max

-- no work is under way and none was ever torn: nothing is refused, and the verdict is "3 alike", or "1" after a disabling. The journal may begin with
-- earlier lives
abbrev pub Inspected : Type 0
Inspected =
    (earlier : List Life) → LivesOk earlier
    → (before : List ℕ) (x : BootInputs) → boot_number (open_cold_boot before x).status ≡ 0 → (calls : List Call) → CallsOk calls
    → let m = run step (after_cold_boot before x) calls in
    let b = run ledger_step (first_ledger x) calls in
    b.torn ≡ false → is_under_way b ≡ false
    → (input : List ℕ) → Given input m.image (journal_bytes (entries_over earlier) ++ unit_journal before x calls)
    → output input ≡ bytes4 0 ++ (bytes8 0 ++ cond (any disables b.history) (1 ∷ []) (3 ∷ registers_told (chain_of b)))

-- ---- and what verdict 3 proves

-- a whole image and, behind earlier lives, the journal of a life whose counted works give, word for word, the image's PCR2 to PCR31 and nodes
pub record Vouched (input : List ℕ) : Type 0 where
  pub whole : image_bytes ≤ length input
  pub earlier : List Life
  pub life : Life
  pub earlier_ok : LivesOk earlier
  pub life_ok : LifeOk life
  pub journal : take journal_max (drop image_bytes input) ≡ journal_bytes (entries_over earlier ++ entries_for (history_of life))
  pub on : any disables (history_of life) ≡ false
  pub words : (k : ℕ) → k < image_words - compared_at
      → get_or (words_at image_words input 0) (compared_at + k) 0 ≡ get_or (compared_rows (state_of (history_of life)).chain) k 0

abbrev pub Vouches : Type 0
Vouches = (input registers : List ℕ) → Bytes input → output input ≡ bytes4 0 ++ (bytes8 0 ++ (3 ∷ registers)) → Vouched input
