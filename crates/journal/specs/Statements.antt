-- What §3 of document 02 says of a journal's bytes, each sentence as a statement; proofs/ proves them. Assumes nothing.
use Rattle.std.specs.Prelude.{ℕ, ◌+◌, ◌≤◌, ◌<◌, ◌≡◌, ◌↔◌, List, [], ◌∷◌, ◌++◌, get_or, length}
use Rattle.layout.specs.declared.refusals.Refusal.{Refusal}
use Rattle.layout.specs.declared.refusals.Refusal.TheVariants.{UnlistedKind, BadNumber, CutEntry}
use Rattle.journal.specs.Read.{Read, refused, got}
use Rattle.journal.specs.Numbers.{number_bytes}
use Rattle.journal.specs.Entries.{Entry, cold_boot, update, disabling, stash, extension, derive, extend, rotate, destroy, EntryOk, EntriesOk, entry_bytes, journal_bytes, read_entry, longest}
use Rattle.journal.specs.Journal.{stopped, ended, read_journal}

-- every number of a list is a byte
abbrev pub Bytes : List ℕ → Type 0
Bytes l = (i : ℕ) → get_or l i 0 < 256

-- ---- the bytes of an entry

-- "one byte of kind (1 cold boot, 2 update, 3 disabling, 4 stash, 5 extension), then a boot's digests, a stash's type, digest, svn and caller, or
-- an extension's register and digest"; kinds 6 to 9 (§5): "the data after its 1 to 4, the fresh handle if any, the caller"
pub record Laid : Type 0 where
  pub cold_boot : (runtime manifest : List ℕ) → entry_bytes (cold_boot runtime manifest) ≡ 1 ∷ (runtime ++ manifest)
  pub update : (runtime manifest : List ℕ) → entry_bytes (update runtime manifest) ≡ 2 ∷ (runtime ++ manifest)
  pub disabling : entry_bytes disabling ≡ 3 ∷ []
  pub stash : (type : ℕ) (digest : List ℕ) (svn caller : ℕ)
      → entry_bytes (stash type digest svn caller) ≡ 4 ∷ (number_bytes type ++ digest ++ number_bytes svn ++ number_bytes caller)
  pub extension : (register : ℕ) (digest : List ℕ) → entry_bytes (extension register digest) ≡ 5 ∷ (number_bytes register ++ digest)
  pub derive : (handle : List ℕ) (retain type : ℕ) (digest fresh : List ℕ) (caller : ℕ)
      → entry_bytes (derive handle retain type digest fresh caller)
      ≡ 6 ∷ (handle ++ number_bytes retain ++ number_bytes type ++ digest ++ fresh ++ number_bytes caller)
  pub extend : (handle digest : List ℕ) (caller : ℕ) → entry_bytes (extend handle digest caller) ≡ 7 ∷ (handle ++ digest ++ number_bytes caller)
  pub rotate : (handle fresh : List ℕ) (caller : ℕ) → entry_bytes (rotate handle fresh caller) ≡ 8 ∷ (handle ++ fresh ++ number_bytes caller)
  pub destroy : (handle : List ℕ) (caller : ℕ) → entry_bytes (destroy handle caller) ≡ 9 ∷ (handle ++ number_bytes caller)

-- ---- a list of entries and its journal

-- "reading gives the list back"
abbrev pub ReadsBack : Type 0
ReadsBack = (es : List Entry) → EntriesOk es → read_journal (journal_bytes es) ≡ ended es

-- "One list of entries has one journal": the bytes that are read as a list are exactly those that writing it gives
abbrev pub OneJournal : Type 0
OneJournal = (l : List ℕ) (es : List Entry) → Bytes l → (read_journal l ≡ ended es) ↔ ((l ≡ journal_bytes es) × EntriesOk es)

-- "Refusals, with the entry's offset in the journal": entries that are read, and at the offset behind them one that is not
pub record Stopped (l : List ℕ) (n : Refusal) (offset : ℕ) : Type 0 where
  pub before : List Entry
  pub rest : List ℕ
  pub split : l ≡ journal_bytes before ++ rest
  pub fine : EntriesOk before
  pub there : offset ≡ length (journal_bytes before)
  pub more : 0 < length rest
  pub refusal : read_entry rest ≡ refused n

abbrev pub StopsThere : Type 0
StopsThere = (l : List ℕ) (n : Refusal) (offset : ℕ) → Bytes l → (read_journal l ≡ stopped n offset) ↔ Stopped l n offset

-- ---- one entry: what decides its reading

-- numbers of at most 32 bits, digests of 48 bytes
abbrev pub Fine : Entry → Type 0
Fine e = EntryOk e × Bytes (entry_bytes e)

-- an entry stands at the front
abbrev pub BeginsWithEntry : List ℕ → Type 0
BeginsWithEntry l = (e : Entry) × (rest : List ℕ) × Fine e × (l ≡ entry_bytes e ++ rest)

-- "kind not listed": no entry has this first byte
abbrev pub Unlisted : List ℕ → Type 0
Unlisted l = (e : Entry) → Fine e → get_or (entry_bytes e) 0 0 ≡ get_or l 0 0 → ⊥

-- "cut entry": a proper beginning of some entry
abbrev pub CutShort : List ℕ → Type 0
CutShort l = (e : Entry) × (m : List ℕ) × Fine e × (0 < length m) × (l ++ m ≡ entry_bytes e)

-- "20 kind not listed, 21 number too long or too large, 22 cut entry; the first byte that no entry could have there decides"
pub record Decided (l : List ℕ) : Type 0 where
  pub read : (e : Entry) (rest : List ℕ) → (read_entry l ≡ got e rest) ↔ (Fine e × (l ≡ entry_bytes e ++ rest))
  pub unlisted : (read_entry l ≡ refused UnlistedKind) ↔ Unlisted l
  pub cut : (read_entry l ≡ refused CutEntry) ↔ CutShort l
  pub bad : (read_entry l ≡ refused BadNumber) ↔ ((¬ Unlisted l) × (¬ CutShort l) × (¬ BeginsWithEntry l))

abbrev pub Decides : Type 0
Decides = (l : List ℕ) → Bytes l → 0 < length l → Decided l

-- ---- one entry in a journal that comes in pieces

-- what a reading x becomes when the bytes m follow: what was read stays, and so does every refusal but 22
abbrev pub Grows : {A : Type 0} → List ℕ → Read A → Read A → Type 0
Grows m (refused n) y = (n ≡ CutEntry → ⊥) → y ≡ refused n
Grows m (got v rest) y = y ≡ got v (rest ++ m)

-- "decides": whatever bytes follow
abbrev pub Stays : Type 0
Stays = (m l : List ℕ) → Grows m (read_entry l) (read_entry (l ++ m))

-- reading took at least `few` bytes of l, and at most `most`; where it waits for more, there are fewer than that
abbrev pub Takes : {A : Type 0} → ℕ → ℕ → List ℕ → Read A → Type 0
Takes few most l (refused n) = n ≡ CutEntry → length l < most
Takes few most l (got v rest) = (few + length rest ≤ length l) × (length l ≤ most + length rest)

-- an entry has a byte at least, and no more than the longest; a cut one has fewer
abbrev pub TakesFew : Type 0
TakesFew = (l : List ℕ) → Takes 1 longest l (read_entry l)
