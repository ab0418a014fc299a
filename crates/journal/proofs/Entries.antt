-- Entries: what is written is read back, and what is read is what is written. Assumes nothing.
use Prim.Native.Nat.{ℕ, suc}
use mathlib.Core.Path.{◌≡◌, refl, ap, ◌∙◌}
use mathlib.Core.Bool.{cond}
use mathlib.Core.List.{List, [], ◌∷◌, ◌++◌, append_assoc, append-nil}
use mathlib.Core.Option.{Option, none, some}
use lib.Dec.{eqb}
use borrow.Author.Tests.{eqb-true}
use Rattle.layout.specs.Refusals.{cut_entry}
use Rattle.journal.specs.Read.{refused, got}
use Rattle.journal.specs.Fields.{Values, FieldsOk, fields_bytes, read_fields}
use Rattle.journal.specs.Entries.{Entry, cold_boot, update, disabling, stash, extension, derive, extend, rotate, destroy, Form, cold_boot_form, update_form, disabling_form, stash_form, extension_form, derive_form, extend_form, rotate_form, destroy_form, kind_byte, forms, form_in, form_at, fields_of, form_of, values_of, entry_of, EntryOk, entry_bytes, read_form, read_entry}
use Rattle.journal.specs.Statements.{Bytes, Laid}
use Rattle.journal.proofs.Says.{Says, says_map, by_test}
use Rattle.journal.proofs.Fields.{read_fields_law, FieldsAre, fields_say, FieldsSized, fields_sized}

-- an entry is its form and values
pub same_entry : (e : Entry) → entry_of (form_of e) (values_of e) ≡ e
same_entry (cold_boot r m) = refl
same_entry (update r m) = refl
same_entry disabling = refl
same_entry (stash t d s c) = refl
same_entry (extension r d) = refl
same_entry (derive h r t d f c) = refl
same_entry (extend h d c) = refl
same_entry (rotate h f c) = refl
same_entry (destroy h c) = refl

pub same_form : (f : Form) → form_at (kind_byte f) ≡ some f
same_form cold_boot_form = refl
same_form update_form = refl
same_form disabling_form = refl
same_form stash_form = refl
same_form extension_form = refl
same_form derive_form = refl
same_form extend_form = refl
same_form rotate_form = refl
same_form destroy_form = refl

pub entry_bytes_law : (f : Form) (vs : Values (fields_of f)) → entry_bytes (entry_of f vs) ≡ kind_byte f ∷ fields_bytes (fields_of f) vs
unfolding entry_bytes
entry_bytes_law cold_boot_form vs = refl
entry_bytes_law update_form vs = refl
entry_bytes_law disabling_form vs = refl
entry_bytes_law stash_form vs = refl
entry_bytes_law extension_form vs = refl
entry_bytes_law derive_form vs = refl
entry_bytes_law extend_form vs = refl
entry_bytes_law rotate_form vs = refl
entry_bytes_law destroy_form vs = refl

pub entry_ok : (f : Form) (vs : Values (fields_of f)) → FieldsOk (fields_of f) vs → EntryOk (entry_of f vs)
entry_ok cold_boot_form vs h = h
entry_ok update_form vs h = h
entry_ok disabling_form vs h = h
entry_ok stash_form vs h = h
entry_ok extension_form vs h = h
entry_ok derive_form vs h = h
entry_ok extend_form vs h = h
entry_ok rotate_form vs h = h
entry_ok destroy_form vs h = h

pub laid : Laid
unfolding entry_bytes
laid =
    record {
      cold_boot = λ r m. simp append-nil;
      update = λ r m. simp append-nil;
      disabling = refl;
      stash = λ t d s c. simp (append-nil, append_assoc);
      extension = λ r d. simp append-nil;
      derive = λ h r t d f c. simp (append-nil, append_assoc);
      extend = λ h d c. simp (append-nil, append_assoc);
      rotate = λ h f c. simp (append-nil, append_assoc);
      destroy = λ h c. simp append-nil;
    }

-- ---- what is written is read back

pub entry_none : read_entry [] ≡ refused cut_entry
unfolding read_entry
entry_none = refl

pub read_entry_law : (e : Entry) (l : List ℕ) → EntryOk e → read_entry (entry_bytes e ++ l) ≡ got e l
unfolding read_entry entry_bytes
read_entry_law e l h = rw (same_form (form_of e), read_fields_law (fields_of (form_of e)) (values_of e) l h, same_entry e)

-- ---- what is read is what is written

abbrev pub EntryIs : List ℕ → Entry → List ℕ → Type 0
EntryIs l e rest = (entry_bytes e ++ rest ≡ l) × EntryOk e

-- a form found is the form of that kind
abbrev pub Found : ℕ → Option Form → Type 0
Found k none = Unit {0}
Found k (some f) = k ≡ kind_byte f

pub found : (k : ℕ) (fs : List Form) → Found k (form_in fs k)
found k [] = tt
found k (f ∷ fs) =
    by_test (λ t. Found k (cond t (some f) (form_in fs k))) (eqb k (kind_byte f)) (λ e. eqb-true k (kind_byte f) e) (λ e. found k fs)

form_says : (k : ℕ) (l : List ℕ) (o : Option Form) → Bytes l → Found k o → Says (EntryIs (k ∷ l)) (read_form o l)
form_says k l none s h = tt
form_says k l (some f) s h =
    rw h (says_map (entry_of f) (FieldsAre (fields_of f) l) (EntryIs (kind_byte f ∷ l)) (read_fields (fields_of f) l) built (fields_say (fields_of f) l s))
  where
    built : (vs : Values (fields_of f)) (rest : List ℕ) → FieldsAre (fields_of f) l vs rest → EntryIs (kind_byte f ∷ l) (entry_of f vs) rest
    built vs rest p =
        (ap (λ (t : List ℕ). t ++ rest) (entry_bytes_law f vs) ∙ ap (λ (t : List ℕ). kind_byte f ∷ t) p.0, entry_ok f vs p.1)

pub entry_says : (l : List ℕ) → Bytes l → Says (EntryIs l) (read_entry l)
unfolding read_entry
entry_says [] s = tt
entry_says (k ∷ l) s = form_says k l (form_at k) (λ i. s (suc i)) (found k forms)

-- ---- digests and handles that are read have their lengths, whether or not the list's numbers are bytes

abbrev pub EntrySized : Entry → Type 0
EntrySized e = FieldsSized (fields_of (form_of e)) (values_of e)

entry_of_sized : (f : Form) (vs : Values (fields_of f)) → FieldsSized (fields_of f) vs → EntrySized (entry_of f vs)
entry_of_sized cold_boot_form vs h = h
entry_of_sized update_form vs h = h
entry_of_sized disabling_form vs h = h
entry_of_sized stash_form vs h = h
entry_of_sized extension_form vs h = h
entry_of_sized derive_form vs h = h
entry_of_sized extend_form vs h = h
entry_of_sized rotate_form vs h = h
entry_of_sized destroy_form vs h = h

form_sized : (o : Option Form) (l : List ℕ) → Says (λ e rest. EntrySized e) (read_form o l)
form_sized none l = tt
form_sized (some f) l =
    says_map (entry_of f) (λ vs rest. FieldsSized (fields_of f) vs) (λ e rest. EntrySized e) (read_fields (fields_of f) l)
    (λ vs rest h. entry_of_sized f vs h)
    (fields_sized (fields_of f) l)

pub entry_sized : (l : List ℕ) → Says (λ e rest. EntrySized e) (read_entry l)
unfolding read_entry
entry_sized [] = tt
entry_sized (k ∷ l) = form_sized (form_at k) l
