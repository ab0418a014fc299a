-- An entry by its kind, and a derive by its fields. Assumes nothing.
use Prim.Native.Nat.{ℕ, suc, ◌-◌, ◌*◌, ◌≤◌}
use mathlib.Core.Path.{◌≡◌, refl, sym, ap, ◌∙◌}
use mathlib.Core.List.{List, [], ◌∷◌, ◌++◌}
use mathlib.Core.Option.{Option, none, some}
use native.Mathlib.Omega.{arith}
use lib.ListN.{length, take, length-append}
use lib.Seq.{take_at, drop_at}
use Rattle.std.proofs.Common.{Ok, Err}
use Rattle.layout.specs.Sizes.{handle_bytes}
use Rattle.layout.specs.Words.{zeros}
use Rattle.layout.specs.declared.refusals.Refusal.{Refusal}
use Rattle.layout.specs.Refusals.{unlisted_kind}
use Rattle.journal.specs.Read.{Read, refused, got, and_then, map_read}
use Rattle.journal.specs.Fields.{number, Values, read_fields}
use Rattle.journal.specs.Entries.{Entry, cold_boot, update, disabling, stash, extension, derive, extend, rotate, destroy, Form, handle, derive_fields, form_at, fields_of, entry_of, derive_form, read_entry, cold_boot_form, update_form, disabling_form, stash_form, extension_form, extend_form, rotate_form, destroy_form}
use Rattle.journal.proofs.Behind.{Leaves, fields_leave}
use Rattle.journal.proofs.Fields.{fields_append}
use Rattle.journal.proofs.Entries.{EntrySized}
use Rattle.journal_bytes.specs.Kinds.{form_by, kind_by, kind_told, kind_at}
use Rattle.journal_bytes.specs.declared.entry.EntryKind.{EntryKind}
use Rattle.journal_bytes.specs.declared.entry.EntryKind.TheVariants.{Derive}
use Rattle.journal_bytes.specs.declared.entry.EntryParts.{EntryParts}
use Rattle.journal_bytes.specs.declared.read.DeriveFields.{DeriveFields}
use Rattle.journal_bytes.specs.Results.{parts_with, handles_in, handle_part, fresh_part, parts_of, entry_in, parts_read, taken_of, derive_parts, derive_read, entry_read}

-- ---- a derive: behind its fields in its entry stand the fresh handle and the caller

abbrev pub derive_told : DeriveFields → List ℕ → Read EntryParts
derive_told d rest =
    map_read (λ vs. parts_with Derive d.node_type 0 d.retain vs.1.0 d.digest (handles_in d.handle vs.0)) (read_fields (handle ∷ number ∷ []) rest)

pub derive_split : (l : List ℕ) → parts_read derive_form l ≡ and_then (derive_read l) derive_told
unfolding parts_read derive_read parts_of
derive_split l = ap (map_read (λ vs. parts_of (entry_of derive_form vs))) (fields_append derive_fields (handle ∷ number ∷ []) l) ∙ by_fields (read_fields derive_fields l)
  where
    by_rest : (vs : Values derive_fields) (y : Read (Values (handle ∷ number ∷ [])))
        → map_read (λ ws. parts_of (entry_of derive_form ws)) (map_read (λ ws. (vs.0, (vs.1.0, (vs.1.1.0, (vs.1.1.1.0, ws))))) y)
        ≡ map_read (λ ws. parts_with Derive vs.1.1.0 0 vs.1.0 ws.1.0 vs.1.1.1.0 (handles_in vs.0 ws.0)) y
    by_rest vs (refused r) = refl
    by_rest vs (got ws rest) = refl

    by_fields : (x : Read (Values derive_fields))
        → map_read (λ ws. parts_of (entry_of derive_form ws))
        (and_then x (λ vs rest. map_read (λ ws. (vs.0, (vs.1.0, (vs.1.1.0, (vs.1.1.1.0, ws))))) (read_fields (handle ∷ number ∷ []) rest)))
        ≡ and_then (map_read derive_parts x) derive_told
    by_fields (refused r) = refl
    by_fields (got vs rest) = by_rest vs (read_fields (handle ∷ number ∷ []) rest)

-- ---- by the kind's byte

kind_form : (o : Option Form) (kind : EntryKind) → Ok kind ≡ kind_told o → o ≡ some (form_by kind)
kind_form none kind e = let z : ◌≡◌ {A = ℕ} 0 1 = cc in absurd (omega arith)
kind_form (some f) kind e = let q : kind ≡ kind_by f = cc in rw q (ap some (back f))
  where
    back : (f : Form) → f ≡ form_by (kind_by f)
    back cold_boot_form = refl
    back update_form = refl
    back disabling_form = refl
    back stash_form = refl
    back extension_form = refl
    back derive_form = refl
    back extend_form = refl
    back rotate_form = refl
    back destroy_form = refl

kind_refused : (o : Option Form) (r : Refusal) → Err r ≡ kind_told o → (r ≡ unlisted_kind) × (o ≡ none)
kind_refused none r e = (cc, refl)
kind_refused (some f) r e = let z : ◌≡◌ {A = ℕ} 0 1 = cc in absurd (omega arith)

twice : {A B C : Type 0} (f : A → B) (g : B → C) (x : Read A) → map_read g (map_read f x) ≡ map_read (λ v. g (f v)) x
twice f g (refused r) = refl
twice f g (got v rest) = refl

module _ (k : ℕ) (l : List ℕ) where
  parts_of_kind : (kind : EntryKind) → Ok kind ≡ kind_at k → map_read parts_of (read_entry (k ∷ l)) ≡ parts_read (form_by kind) l
  unfolding kind_at read_entry parts_read
  parts_of_kind kind e = rw (kind_form (form_at k) kind e) (twice (entry_of (form_by kind)) parts_of (read_fields (fields_of (form_by kind)) l))

  pub entry_unlisted : (r : Refusal) → Err r ≡ kind_at k → Err r ≡ entry_read (k ∷ l)
  unfolding kind_at read_entry entry_read
  entry_unlisted r e = let q = kind_refused (form_at k) r e in rw (q.1, q.0)

  pub entry_refused : (kind : EntryKind) (r : Refusal) → Ok kind ≡ kind_at k → refused r ≡ parts_read (form_by kind) l → Err r ≡ entry_read (k ∷ l)
  unfolding entry_read
  entry_refused kind r e h = ap (taken_of (k ∷ l)) (h ∙ sym (parts_of_kind kind e))

  pub entry_got : (kind : EntryKind) (p : EntryParts) (rest : List ℕ) (n : ℕ) → Ok kind ≡ kind_at k → got p rest ≡ parts_read (form_by kind) l
      → n ≡ suc (length l) - length rest → Ok (p, n) ≡ entry_read (k ∷ l)
  unfolding entry_read
  entry_got kind p rest n e h q = rw q (ap (taken_of (k ∷ l)) (h ∙ sym (parts_of_kind kind e)))

-- what is behind the fields is no longer than they and it
pub parts_fit : (f : Form) (l : List ℕ) (p : EntryParts) (rest : List ℕ) → got p rest ≡ parts_read f l → length rest ≤ length l
unfolding parts_read
parts_fit f l p rest e = fits (read_fields (fields_of f) l) (fields_leave (fields_of f) l) e
  where
    fits : (x : Read (Values (fields_of f))) → Leaves l x → got p rest ≡ map_read (λ vs. parts_of (entry_of f vs)) x → length rest ≤ length l
    fits (refused r) h e = let z : ◌≡◌ {A = ℕ} 0 1 = cc in absurd (omega arith)
    fits (got vs m) h e = let q : rest ≡ m = cc in omega (arith, ap length h.1, length-append h.0 m, ap length q)

-- ---- what the parts say of the entry

-- two handles in the room of a digest, apart again
handle_back : (h f : List ℕ) → length h ≡ handle_bytes → handle_part (handles_in h f) ≡ h
handle_back h f e = take_at h (f ++ zeros (48 - 2 * handle_bytes)) handle_bytes e

fresh_back : (h f : List ℕ) → length h ≡ handle_bytes → length f ≡ handle_bytes → fresh_part (handles_in h f) ≡ f
fresh_back h f e k =
    ap (take handle_bytes) (drop_at h (f ++ zeros (48 - 2 * handle_bytes)) handle_bytes e) ∙ take_at f (zeros (48 - 2 * handle_bytes)) handle_bytes k

-- an entry that is read is what its parts are
pub parts_entry : (e : Entry) → EntrySized e → entry_in (parts_of e) ≡ e
unfolding entry_in parts_of
parts_entry (cold_boot r m) z = refl
parts_entry (update r m) z = refl
parts_entry disabling z = refl
parts_entry (stash t d s c) z = refl
parts_entry (extension r d) z = refl
parts_entry (derive h r t d f c) z = rw (handle_back h f z.0, fresh_back h f z.0 z.1.1.1.1.0)
parts_entry (extend h d c) z = rw (handle_back h (zeros handle_bytes) z.0)
parts_entry (rotate h f c) z = rw (handle_back h f z.0, fresh_back h f z.0 z.1.0)
parts_entry (destroy h c) z = rw (handle_back h (zeros handle_bytes) z.0)
