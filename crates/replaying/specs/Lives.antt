-- What an inspector may conclude: replaying a unit's journal gives the ledger's registers and chain, and replay accepts no other journal. Assumes nothing.
use Rattle.std.specs.Prelude.{ℕ, ◌^◌, ◌<◌, ◌≡◌, ◌↔◌, true, List, [], ◌∷◌, ◌++◌}
use Rattle.journal.specs.Entries.{Entry, journal_bytes}
use Rattle.journal.specs.Journal.{ended}
use Rattle.journal.specs.Statements.{Bytes}
use Rattle.opening.specs.Tasks.{BootInputs, Task}
use Rattle.opening.specs.Rules.{inputs_ok}
use Rattle.opening.specs.Recorded.{entries_for}
use Rattle.history.specs.Calls.{Call, request, update_boot, store, answer, entry, power_cut, run}
use Rattle.history.specs.Ledger.{state_of, any, disables, ledger_step, first_ledger}
use Rattle.replaying.specs.Replay.{Replay, replay}

-- ---- what a unit can have done

-- a call as the code can make it: a request's bytes and its fresh handle's are bytes, and the caller's number has 32 bits
abbrev pub CallOk : Call → Type 0
CallOk (request r) = Bytes r.bytes × (r.caller < 2 ^ 32) × Bytes r.fresh
CallOk (update_boot x verdict) = Unit {0}
CallOk store = Unit {0}
CallOk (answer buffer) = Unit {0}
CallOk (entry buffer) = Unit {0}
CallOk power_cut = Unit {0}

abbrev pub CallsOk : List Call → Type 0
CallsOk [] = Unit {0}
CallsOk (c ∷ cs) = CallOk c × CallsOk cs

-- a cold boot, and demand 3's list of calls and cuts after it
pub record Life : Type 0 where
  pub boot : BootInputs
  pub calls : List Call

pub record LifeOk (l : Life) : Type 0 where
  pub boot : inputs_ok l.boot ≡ true
  pub calls : CallsOk l.calls

-- demand 3's history: the counted works
abbrev pub history_of : Life → List Task
history_of l = (run ledger_step (first_ledger l.boot) l.calls).history

-- one after another, each from its cold boot on
abbrev pub LivesOk : List Life → Type 0
LivesOk [] = Unit {0}
LivesOk (l ∷ ls) = LifeOk l × LivesOk ls

-- their entries
abbrev pub entries_over : List Life → List Entry
entries_over [] = []
entries_over (l ∷ ls) = entries_for (history_of l) ++ entries_over ls

-- ---- "Replaying demand 3's history gives the book's registers and chain."

pub record Alike (x : Replay) (history : List Task) : Type 0 where
  pub booted : x.booted ≡ true
  pub off : x.off ≡ any disables history
  pub chain : x.contents.chain ≡ (state_of history).chain

-- after any earlier lives
abbrev pub Replays : Type 0
Replays =
    (earlier : List Life) → LivesOk earlier → (l : Life) → LifeOk l
    → (x : Replay) × (replay (journal_bytes (entries_over earlier ++ entries_for (history_of l))) ≡ ended x) × Alike x (history_of l)

-- ---- and "one that the unit couldn't have counted there" is refused: what is accepted, a unit can have written

abbrev pub Accepts : Type 0
Accepts =
    (journal : List ℕ) → Bytes journal
    → ((x : Replay) × (replay journal ≡ ended x)) ↔ ((ls : List Life) × LivesOk ls × (journal ≡ journal_bytes (entries_over ls)))
