-- What the functions over byte slices answer, refused or not. Assumes nothing.
use Rattle.std.specs.Prelude.{ℕ, ◌-◌, ◌*◌, cond, List, ◌++◌, eqb, ltb, length, take, drop, Result, Ok, Err}
use Rattle.std.specs.Borrow.{Bor}
use Rattle.layout.specs.Sizes.{handle_bytes}
use Rattle.layout.specs.Words.{zeros}
use Rattle.layout.specs.declared.refusals.Refusal.{Refusal}
use Rattle.layout.specs.Numbers.{told_number}
use Rattle.layout.specs.declared.refusals.Refusal.TheVariants.{ShortEntry}
use Rattle.journal.specs.Read.{Read, refused, got, map_read}
use Rattle.journal.specs.Numbers.{read_number}
use Rattle.journal.specs.Fields.{plain, Values, read_field, read_fields}
use Rattle.journal.specs.Entries.{Entry, cold_boot, update, disabling, stash, extension, derive, extend, rotate, destroy, Form, derive_fields, fields_of, entry_of, read_entry}
use Rattle.journal_bytes.specs.declared.entry.EntryKind.{EntryKind}
use Rattle.journal_bytes.specs.declared.entry.EntryKind.TheVariants.{ColdBoot, Update, Disabling, Stash, Extension, Derive, Extend, Rotate, Destroy}
use Rattle.journal_bytes.specs.declared.entry.EntryParts.{EntryParts}
use Rattle.journal_bytes.specs.declared.read.DeriveFields.{DeriveFields}

-- ---- an entry as the code's parts, and the entry that any parts are

abbrev pub parts_with : EntryKind → (value svn retain caller : ℕ) → (first second : List ℕ) → EntryParts
parts_with k value svn retain caller first second =
    record { kind = k; value = value; svn = svn; retain = retain; caller = caller; first = first; second = second }

-- the handle and the fresh handle of a tree command, in the room of a second digest
abbrev pub handles_in : List ℕ → List ℕ → List ℕ
handles_in handle fresh = handle ++ (fresh ++ zeros (48 - 2 * handle_bytes))

abbrev pub handle_part : List ℕ → List ℕ
handle_part second = take handle_bytes second

abbrev pub fresh_part : List ℕ → List ℕ
fresh_part second = take handle_bytes (drop handle_bytes second)

-- what a kind lacks is zero
unfoldable pub parts_of : Entry → EntryParts
parts_of (cold_boot r m) = parts_with ColdBoot 0 0 0 0 r m
parts_of (update r m) = parts_with Update 0 0 0 0 r m
parts_of disabling = parts_with Disabling 0 0 0 0 (zeros 48) (zeros 48)
parts_of (stash t d s c) = parts_with Stash t s 0 c d (zeros 48)
parts_of (extension r d) = parts_with Extension r 0 0 0 d (zeros 48)
parts_of (derive h r t d f c) = parts_with Derive t 0 r c d (handles_in h f)
parts_of (extend h d c) = parts_with Extend 0 0 0 c d (handles_in h (zeros handle_bytes))
parts_of (rotate h f c) = parts_with Rotate 0 0 0 c (zeros 48) (handles_in h f)
parts_of (destroy h c) = parts_with Destroy 0 0 0 c (zeros 48) (handles_in h (zeros handle_bytes))

abbrev entry_by : EntryKind → (value svn retain caller : ℕ) → (first second : List ℕ) → Entry
entry_by ColdBoot value svn retain caller first second = cold_boot first second
entry_by Update value svn retain caller first second = update first second
entry_by Disabling value svn retain caller first second = disabling
entry_by Stash value svn retain caller first second = stash value first svn caller
entry_by Extension value svn retain caller first second = extension value first
entry_by Derive value svn retain caller first second = derive (handle_part second) retain value first (fresh_part second) caller
entry_by Extend value svn retain caller first second = extend (handle_part second) first caller
entry_by Rotate value svn retain caller first second = rotate (handle_part second) (fresh_part second) caller
entry_by Destroy value svn retain caller first second = destroy (handle_part second) caller

unfoldable pub entry_in : EntryParts → Entry
entry_in p = entry_by p.kind p.value p.svn p.retain p.caller p.first p.second

-- ---- reading: a refusal, or what was read with the bytes behind it

abbrev pub read_view : {A : Type 0} → Result (A × Bor (List ℕ)) Refusal → Read A
read_view (Ok x) = got x.0 x.1.now
read_view (Err r) = refused r

-- or with the number of bytes that it took
abbrev pub taken_of : {A : Type 0} → List ℕ → Read A → Result (A × ℕ) Refusal
taken_of l (refused r) = Err r
taken_of l (got v rest) = Ok (v, length l - length rest)

unfoldable pub number_read : List ℕ → Result (ℕ × ℕ) Refusal
number_read l = taken_of l (read_number l)

-- plain bytes of a number, and a derive's fields, as its entry and its request have them
unfoldable pub bytes_read : ℕ → List ℕ → Read (List ℕ)
bytes_read n l = read_field (plain n) l

abbrev pub derive_parts : Values derive_fields → DeriveFields
derive_parts vs = record { handle = vs.0; retain = vs.1.0; node_type = vs.1.1.0; digest = vs.1.1.1.0 }

unfoldable pub derive_read : List ℕ → Read DeriveFields
derive_read l = map_read derive_parts (read_fields derive_fields l)

-- what the fields of a form tell
unfoldable pub parts_read : Form → List ℕ → Read EntryParts
parts_read f l = map_read (λ vs. parts_of (entry_of f vs)) (read_fields (fields_of f) l)

unfoldable pub entry_read : List ℕ → Result (EntryParts × ℕ) Refusal
entry_read l = taken_of l (map_read parts_of (read_entry l))

-- ---- of the private functions

-- a kind, and zero for all that it may tell
abbrev pub bare : EntryKind → EntryParts
bare k = parts_with k 0 0 0 0 (zeros 48) (zeros 48)

-- parts that are read in place, with the bytes behind them
abbrev pub filled : Result (Bor (List ℕ)) Refusal → EntryParts → Read EntryParts
filled (Ok rest) p = got p rest.now
filled (Err r) p = refused r

-- ---- writing: bytes into a lent buffer, "then 23, writing nothing, if the buffer is too short"

-- for a buffer of n bytes, how many bytes are written
unfoldable pub taken_given : List ℕ → ℕ → Result ℕ Refusal
taken_given bytes n = cond (ltb n (length bytes)) (Err ShortEntry) (Ok (length bytes))

-- the same as a number; success is 0
unfoldable pub taken_number : List ℕ → ℕ → ℕ
taken_number bytes n = told_number (taken_given bytes n)

unfoldable pub taken_result : List ℕ → List ℕ → Result ℕ Refusal
taken_result bytes buffer = taken_given bytes (length buffer)

-- the buffer afterwards: the bytes, and those past them stay; refused, every byte stays
unfoldable pub taken_buffer : List ℕ → List ℕ → List ℕ
taken_buffer bytes buffer = cond (eqb (taken_number bytes (length buffer)) 0) (bytes ++ drop (length bytes) buffer) buffer
