-- What decides the reading of an entry. Assumes nothing.
use Prim.Native.Nat.{ℕ}
use mathlib.Core.Path.{◌≡◌, refl, sym, ap, ◌∙◌}
use mathlib.Core.Logic.{⊎_elim, inl, inr}
use mathlib.Core.List.{List, [], ◌∷◌, ◌++◌}
use mathlib.Core.Option.{Option, none, some}
use native.Mathlib.Omega.{arith}
use native.Mathlib.Nat.{not-suc-le-zero}
use lib.ListN.{get_or}
use Rattle.layout.specs.declared.refusals.Refusal.{Refusal}
use Rattle.layout.specs.Refusals.{unlisted_kind, bad_number, cut_entry}
use Rattle.journal.specs.Read.{Read, refused, got, map_read}
use Rattle.journal.specs.Fields.{Values, fields_bytes, read_fields}
use Rattle.journal.specs.Entries.{Entry, Form, forms, form_at, fields_of, form_of, entry_of, EntryOk, entry_bytes, read_form, read_entry}
use Rattle.journal.specs.Statements.{Bytes, Fine, BeginsWithEntry, Unlisted, CutShort, Decides}
use Rattle.journal.proofs.Bytes.{bytes_front, bytes_append, bytes_one}
use Rattle.journal.proofs.Entries.{same_form, entry_bytes_law, entry_ok, read_entry_law, EntryIs, entry_says, Found, found}
use Rattle.journal.proofs.Behind.{Leaves, fields_leave, EntryLeaves, entry_leaves}
use Rattle.journal.proofs.Waiting.{Waits, entry_waits, prefix_waits, blanks, blanks_ok, blanks_bytes}

-- no field is refused as an unlisted kind
not_unlisted : (f : Form) (l : List ℕ) → read_form (some f) l ≡ refused unlisted_kind → ⊥
not_unlisted f l = go (read_fields (fields_of f) l) (fields_leave (fields_of f) l)
  where
    go : (x : Read (Values (fields_of f))) → Leaves l x → map_read (entry_of f) x ≡ refused unlisted_kind → ⊥
    go (refused n) h e = ⊎_elim (λ k. let z : ◌≡◌ {A = ℕ} 0 1 = cc in omega arith) (λ k. let z : ◌≡◌ {A = ℕ} 0 1 = cc in omega arith) h
    go (got vs rest) h e = let z : ◌≡◌ {A = ℕ} 0 1 = cc in omega arith

module _ (k : ℕ) (l : List ℕ) (s : Bytes (k ∷ l)) where
  read_is : (e : Entry) (rest : List ℕ) → read_entry (k ∷ l) ≡ got e rest → Fine e × (k ∷ l ≡ entry_bytes e ++ rest)
  read_is e rest h =
      let p : EntryIs (k ∷ l) e rest = rw h at (entry_says (k ∷ l) s) in
      ((p.1, bytes_front (entry_bytes e) rest (k ∷ l) p.0 s), sym p.0)

  is_read : (e : Entry) (rest : List ℕ) → Fine e × (k ∷ l ≡ entry_bytes e ++ rest) → read_entry (k ∷ l) ≡ got e rest
  is_read e rest p = rw p.1 (read_entry_law e rest p.0.0)

  unlisted_is : read_entry (k ∷ l) ≡ refused unlisted_kind → Unlisted (k ∷ l)
  unfolding read_entry entry_bytes
  unlisted_is h e ok first =
      let p : form_at k ≡ some (form_of e) = ap form_at (sym first) ∙ same_form (form_of e) in
      not_unlisted (form_of e) l (ap (λ (o : Option Form). read_form o l) (sym p) ∙ h)

  -- a form that is listed has an entry
  is_unlisted : Unlisted (k ∷ l) → read_entry (k ∷ l) ≡ refused unlisted_kind
  unfolding read_entry
  is_unlisted u = by_form (form_at k) (found k forms)
    where
      by_form : (o : Option Form) → Found k o → read_form o l ≡ refused unlisted_kind
      by_form none h = refl
      by_form (some f) h =
          let vs = blanks (fields_of f) in
          let b = fields_bytes (fields_of f) vs in
          let e : entry_bytes (entry_of f vs) ≡ k ∷ b = rw h (entry_bytes_law f vs) in
          let small : Bytes (entry_bytes (entry_of f vs)) = rw e (bytes_append (k ∷ []) b (bytes_one k (s 0)) (blanks_bytes (fields_of f))) in
          absurd (u (entry_of f vs) (entry_ok f vs (blanks_ok (fields_of f)), small) (ap (λ (t : List ℕ). get_or t 0 0) e))

  cut_is : read_entry (k ∷ l) ≡ refused cut_entry → CutShort (k ∷ l)
  cut_is h =
      let w : Waits entry_bytes EntryOk (k ∷ l) (refused cut_entry) = rw h at (entry_waits k l s) in
      let g = w refl in
      let small : Bytes (entry_bytes g.value) = rw (← g.whole) (bytes_append (k ∷ l) g.missing s g.bytes) in
      (g.value, g.missing, (g.ok, small), g.more, g.whole)

  is_cut : CutShort (k ∷ l) → read_entry (k ∷ l) ≡ refused cut_entry
  is_cut c = prefix_waits c.0 (k ∷ l) c.1 c.2.0 c.3 c.4

  bad_is : read_entry (k ∷ l) ≡ refused bad_number → (¬ Unlisted (k ∷ l)) × (¬ CutShort (k ∷ l)) × (¬ BeginsWithEntry (k ∷ l))
  bad_is h = (λ u. other unlisted_kind (λ e. let z : ◌≡◌ {A = ℕ} 0 1 = cc in omega arith) (is_unlisted u), λ c. other cut_entry (λ e. let z : ◌≡◌ {A = ℕ} 0 1 = cc in omega arith) (is_cut c), λ b. read b.0 b.1 (is_read b.0 b.1 (b.2, b.3)))
    where
      other : (n : Refusal) → (n ≡ bad_number → ⊥) → read_entry (k ∷ l) ≡ refused n → ⊥
      other n ne q = ne (cc)

      read : (e : Entry) (rest : List ℕ) → read_entry (k ∷ l) ≡ got e rest → ⊥
      read e rest q = let z : ◌≡◌ {A = ℕ} 0 1 = cc in omega arith

  is_bad : (¬ Unlisted (k ∷ l)) × (¬ CutShort (k ∷ l)) × (¬ BeginsWithEntry (k ∷ l)) → read_entry (k ∷ l) ≡ refused bad_number
  is_bad p = by_reading (read_entry (k ∷ l)) refl (entry_leaves (k ∷ l))
    where
      by_reading : (x : Read Entry) → read_entry (k ∷ l) ≡ x → EntryLeaves (k ∷ l) x → x ≡ refused bad_number
      by_reading (refused n) e (inl h) = absurd (p.0 (unlisted_is (e ∙ ap refused h)))
      by_reading (refused n) e (inr (inl h)) = ap refused h
      by_reading (refused n) e (inr (inr h)) = absurd (p.1 (cut_is (e ∙ ap refused h)))
      by_reading (got v rest) e h = let r = read_is v rest e in absurd (p.2 (v, rest, r.0, r.1))

pub decides : Decides
decides [] s h = absurd (not-suc-le-zero h)
decides (k ∷ l) s h =
    record {
      read = λ e rest. (read_is k l s e rest, is_read k l s e rest);
      unlisted = (unlisted_is k l s, is_unlisted k l s);
      cut = (cut_is k l s, is_cut k l s);
      bad = (bad_is k l s, is_bad k l s);
    }
