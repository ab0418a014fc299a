-- A work's journal entry, taken as its answer is (document 02, §3). Each is defined for every work value and every buffer. Assumes nothing.
use Rattle.std.specs.Prelude.{ℕ, cond, not, List, [], ◌∷◌, eqb, length, get_or, take, drop, Result, Ok, Err}
use Rattle.layout.specs.Sizes.{type_at, svn_at, locality_at}
use Rattle.layout.specs.declared.refusals.Refusal.{Refusal}
use Rattle.layout.specs.declared.refusals.Refusal.TheVariants.{StoresLeft}
use Rattle.layout.specs.Numbers.{told_number}
use Rattle.table.specs.declared.Kind.{Kind}
use Rattle.table.specs.declared.Kind.TheVariants.{Nothing, Disabling, Stash, Update, ColdBoot, Extension, Derive, Replace, Extend, Rotate, Destroy}
use Rattle.journal.specs.Entries.{Entry, cold_boot, update, disabling, stash, extension, derive, extend, rotate, destroy, journal_bytes}
use Rattle.journal_bytes.specs.Results.{handle_part, fresh_part, taken_given, taken_buffer}
use Rattle.work.specs.Entries.{finished}
use Rattle.work.specs.declared.Work.{Work}

-- ---- the entry

-- the digests among a work's inputs: the first, and a boot's second
abbrev pub first_digest : List ℕ → List ℕ
first_digest inputs = take 48 inputs

abbrev pub second_digest : List ℕ → List ℕ
second_digest inputs = take 48 (drop 48 inputs)

-- among a tree command's: its handle and its fresh handle, where a second digest would stand
abbrev pub handle_told : List ℕ → List ℕ
handle_told inputs = handle_part (second_digest inputs)

abbrev pub fresh_told : List ℕ → List ℕ
fresh_told inputs = fresh_part (second_digest inputs)

-- the caller of a stash or a tree command: it stands in the node's words, at the locality's place, whatever the others are
abbrev pub caller_told : (node : List ℕ) → ℕ
caller_told node = get_or node locality_at 0

-- "a boot's digests, a stash's type, digest, svn and caller, or an extension's register and digest; the secret is never written": what the
-- kind, the new node and the inputs of a work tell; none where nothing is stored
unfoldable pub entries_for : Kind → (node inputs : List ℕ) → List Entry
entries_for Nothing node inputs = []
entries_for Disabling node inputs = disabling ∷ []
entries_for (Stash at) node inputs = stash (get_or node type_at 0) (first_digest inputs) (get_or node svn_at 0) (caller_told node) ∷ []
entries_for (Update root) node inputs = update (first_digest inputs) (second_digest inputs) ∷ []
entries_for ColdBoot node inputs = cold_boot (first_digest inputs) (second_digest inputs) ∷ []
entries_for (Extension register) node inputs = extension register (first_digest inputs) ∷ []
entries_for (Derive i) node inputs =
    derive (handle_told inputs) 1 (get_or node type_at 0) (first_digest inputs) (fresh_told inputs) (caller_told node) ∷ []
entries_for (Replace at) node inputs =
    derive (handle_told inputs) 0 (get_or node type_at 0) (first_digest inputs) (fresh_told inputs) (caller_told node) ∷ []
entries_for (Extend i) node inputs = extend (handle_told inputs) (first_digest inputs) (caller_told node) ∷ []
entries_for (Rotate i) node inputs = rotate (handle_told inputs) (fresh_told inputs) (caller_told node) ∷ []
entries_for (Destroy count) node inputs = destroy (handle_told inputs) (caller_told node) ∷ []

unfoldable pub entries_of : Work → List Entry
entries_of w = entries_for w.kind w.node w.inputs

-- "(no stores, no bytes)": the entry's bytes
abbrev pub recorded_bytes : Work → List ℕ
recorded_bytes w = journal_bytes (entries_of w)

-- ---- its taking

-- "as its answer is: 7 first, then 23 .. if the buffer is too short", for a buffer of n bytes; else how many bytes are written
unfoldable pub entry_given : Work → ℕ → Result ℕ Refusal
entry_given w n = cond (not (finished w)) (Err StoresLeft) (taken_given (recorded_bytes w) n)

-- the same as a number; success is 0
unfoldable pub entry_number : Work → ℕ → ℕ
entry_number w n = told_number (entry_given w n)

unfoldable pub entry_result : Work → List ℕ → Result ℕ Refusal
entry_result w buffer = entry_given w (length buffer)

-- a taking's number, and how many bytes it took
abbrev pub taking_bytes : Result ℕ Refusal → ℕ
taking_bytes (Ok n) = n
taking_bytes (Err r) = 0

-- the buffer afterwards: the entry, and bytes past it stay; "writing nothing" where it is refused
unfoldable pub entry_buffer : Work → List ℕ → List ℕ
entry_buffer w buffer = cond (eqb (entry_number w (length buffer)) 0) (taken_buffer (recorded_bytes w) buffer) buffer
