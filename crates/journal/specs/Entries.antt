-- The entries of the journal, their bytes, and reading one back (document 02, §3). Assumes nothing.
use Rattle.std.specs.Prelude.{ℕ, cond, List, [], ◌∷◌, ◌++◌, eqb}
use Rattle.std.proofs.Math.Option.{Option, none, some}
use Rattle.layout.specs.Sizes.{handle_bytes}
use Rattle.layout.specs.declared.refusals.Refusal.TheVariants.{UnlistedKind, CutEntry}
use Rattle.journal.specs.Read.{Read, refused, map_read}
use Rattle.journal.specs.Fields.{Field, number, plain, Values, FieldsOk, fields_bytes, read_fields}

-- one counted work with its inputs, and not the secret
pub data Entry : Type 0 where
  cold_boot update : (runtime manifest : List ℕ) → Entry
  disabling : Entry
  stash : (type : ℕ) (digest : List ℕ) (svn caller : ℕ) → Entry
  extension : (register : ℕ) (digest : List ℕ) → Entry
  -- tree commands (document 02, §5)
  derive : (handle : List ℕ) (retain type : ℕ) (digest fresh : List ℕ) (caller : ℕ) → Entry
  extend : (handle digest : List ℕ) (caller : ℕ) → Entry
  rotate : (handle fresh : List ℕ) (caller : ℕ) → Entry
  destroy : (handle : List ℕ) (caller : ℕ) → Entry

-- ---- the form of each kind

pub data Form : Type 0 where
  cold_boot_form update_form disabling_form stash_form extension_form derive_form extend_form rotate_form destroy_form : Form

-- "one byte of kind (1 cold boot, 2 update, 3 disabling, 4 stash, 5 extension)", and 6 to 9 for the tree commands
abbrev pub kind_byte : Form → ℕ
kind_byte cold_boot_form = 1
kind_byte update_form = 2
kind_byte disabling_form = 3
kind_byte stash_form = 4
kind_byte extension_form = 5
kind_byte derive_form = 6
kind_byte extend_form = 7
kind_byte rotate_form = 8
kind_byte destroy_form = 9

abbrev pub forms : List Form
forms =
    cold_boot_form ∷ update_form ∷ disabling_form ∷ stash_form ∷ extension_form ∷ derive_form ∷ extend_form ∷ rotate_form ∷ destroy_form ∷ []

-- the form of a kind's byte, if it is listed
abbrev pub form_in : List Form → ℕ → Option Form
form_in [] k = none
form_in (f ∷ fs) k = cond (eqb k (kind_byte f)) (some f) (form_in fs k)

abbrev pub form_at : ℕ → Option Form
form_at k = form_in forms k

-- "Digests are 48 plain bytes."
abbrev pub digest : Field
digest = plain 48

-- "a 20-byte handle"
abbrev pub handle : Field
handle = plain handle_bytes

-- what the data of a tree command holds behind its first byte (document 02, §5): "1 derive child (handle, retain 1 or 0, type, digest), 2 extend
-- (handle, digest), 3 rotate handle, 4 destroy"
abbrev pub derive_fields : List Field
derive_fields = handle ∷ number ∷ number ∷ digest ∷ []

abbrev pub extend_fields : List Field
extend_fields = handle ∷ digest ∷ []

abbrev pub handle_fields : List Field
handle_fields = handle ∷ []

-- "then a boot's digests, a stash's type, digest, svn and caller, or an extension's register and digest"; of a tree command "the data after its 1 to
-- 4, the fresh handle if any, the caller"
abbrev pub fields_of : Form → List Field
fields_of cold_boot_form = digest ∷ digest ∷ []
fields_of update_form = digest ∷ digest ∷ []
fields_of disabling_form = []
fields_of stash_form = number ∷ digest ∷ number ∷ number ∷ []
fields_of extension_form = number ∷ digest ∷ []
fields_of derive_form = derive_fields ++ (handle ∷ number ∷ [])
fields_of extend_form = extend_fields ++ (number ∷ [])
fields_of rotate_form = handle_fields ++ (handle ∷ number ∷ [])
fields_of destroy_form = handle_fields ++ (number ∷ [])

-- ---- an entry is its form and the values of the form's fields

abbrev pub form_of : Entry → Form
form_of (cold_boot r m) = cold_boot_form
form_of (update r m) = update_form
form_of disabling = disabling_form
form_of (stash t d s c) = stash_form
form_of (extension r d) = extension_form
form_of (derive h r t d f c) = derive_form
form_of (extend h d c) = extend_form
form_of (rotate h f c) = rotate_form
form_of (destroy h c) = destroy_form

abbrev pub values_of : (e : Entry) → Values (fields_of (form_of e))
values_of (cold_boot r m) = (r, (m, tt))
values_of (update r m) = (r, (m, tt))
values_of disabling = tt
values_of (stash t d s c) = (t, (d, (s, (c, tt))))
values_of (extension r d) = (r, (d, tt))
values_of (derive h r t d f c) = (h, (r, (t, (d, (f, (c, tt))))))
values_of (extend h d c) = (h, (d, (c, tt)))
values_of (rotate h f c) = (h, (f, (c, tt)))
values_of (destroy h c) = (h, (c, tt))

abbrev pub entry_of : (f : Form) → Values (fields_of f) → Entry
entry_of cold_boot_form vs = cold_boot vs.0 vs.1.0
entry_of update_form vs = update vs.0 vs.1.0
entry_of disabling_form vs = disabling
entry_of stash_form vs = stash vs.0 vs.1.0 vs.1.1.0 vs.1.1.1.0
entry_of extension_form vs = extension vs.0 vs.1.0
entry_of derive_form vs = derive vs.0 vs.1.0 vs.1.1.0 vs.1.1.1.0 vs.1.1.1.1.0 vs.1.1.1.1.1.0
entry_of extend_form vs = extend vs.0 vs.1.0 vs.1.1.0
entry_of rotate_form vs = rotate vs.0 vs.1.0 vs.1.1.0
entry_of destroy_form vs = destroy vs.0 vs.1.0

-- numbers below 2^32, digests of 48 bytes and handles of 20
abbrev pub EntryOk : Entry → Type 0
EntryOk e = FieldsOk (fields_of (form_of e)) (values_of e)

abbrev pub EntriesOk : List Entry → Type 0
EntriesOk [] = Unit {0}
EntriesOk (e ∷ es) = EntryOk e × EntriesOk es

-- ---- to bytes

unfoldable pub entry_bytes : Entry → List ℕ
entry_bytes e = kind_byte (form_of e) ∷ fields_bytes (fields_of (form_of e)) (values_of e)

-- the most bytes of an entry: a derive's, with three numbers of five groups
abbrev pub longest : ℕ
longest = 104

abbrev pub journal_bytes : List Entry → List ℕ
journal_bytes [] = []
journal_bytes (e ∷ es) = entry_bytes e ++ journal_bytes es

-- ---- and back

-- "20 kind not listed"
abbrev pub read_form : Option Form → List ℕ → Read Entry
read_form none l = refused UnlistedKind
read_form (some f) l = map_read (entry_of f) (read_fields (fields_of f) l)

-- "22 cut entry": before its first byte too
unfoldable pub read_entry : List ℕ → Read Entry
read_entry [] = refused CutEntry
read_entry (k ∷ l) = read_form (form_at k) l
