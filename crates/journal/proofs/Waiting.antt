-- A cut entry: some entry goes on from it, and every proper beginning of an entry is one. Assumes nothing.
use Prim.Native.Nat.{ℕ, zero, suc, ◌-◌, ◌≤◌, ◌<◌}
use mathlib.Core.Path.{◌≡◌, refl, sym, ap, ◌∙◌}
use mathlib.Core.Bool.{cond, ◌&&◌}
use mathlib.Core.List.{List, [], ◌∷◌, ◌++◌, append_assoc, append-nil}
use mathlib.Core.Option.{Option, none, some}
use mathlib.Core.Logic.{inl, inr}
use native.Mathlib.Omega.{arith}
use lib.Dec.{leb}
use lib.ListN.{length, take, drop, replicate, length-append, length-replicate}
use borrow.Author.Tests.{leb-false, ltb-false}
use Rattle.layout.specs.Numbers.{refusal_number}
use Rattle.layout.specs.Refusals.{cut_entry}
use Rattle.journal.specs.Read.{Read, refused, got, and_then, map_read}
use Rattle.journal.specs.Numbers.{groups, number_bytes, under, is_last, is_needed, is_top, wrong_byte, read_later, read_number}
use Rattle.journal.specs.Fields.{Field, number, plain, Value, Values, FieldOk, FieldsOk, field_bytes, fields_bytes, read_field, read_fields}
use Rattle.journal.specs.Entries.{Entry, Form, kind_byte, forms, form_at, fields_of, entry_of, EntryOk, entry_bytes, read_form, read_entry}
use Rattle.journal.specs.Statements.{Bytes, Grows}
use Rattle.journal.proofs.Bytes.{bytes_rest, bytes_append, bytes_one, bytes_zeros}
use Rattle.journal.proofs.Refusals.{cut_or_not}
use Rattle.journal.proofs.Says.{Says, by_test}
use Rattle.journal.proofs.Numbers.{groups_under, LaterOk, later_one, later_under}
use Rattle.journal.proofs.Fields.{FieldIs, field_says}
use Rattle.journal.proofs.Entries.{entry_bytes_law, entry_ok, read_entry_law, Found, found}
use Rattle.journal.proofs.Behind.{entry_grows}

-- ---- bytes that go on to what is written of some value

pub record GoesOn {A : Type 0} (write : A → List ℕ) (Ok : A → Type 0) (l : List ℕ) : Type 0 where
  pub value : A
  pub ok : Ok value
  pub missing : List ℕ
  pub bytes : Bytes missing
  pub more : 0 < length missing
  pub whole : l ++ missing ≡ write value

-- a reading that is refused as cut
abbrev pub Waits : {A : Type 0} → (A → List ℕ) → (A → Type 0) → List ℕ → Read A → Type 0
Waits write Ok l (refused n) = n ≡ cut_entry → GoesOn write Ok l
Waits write Ok l (got v rest) = Unit {0}

waits_map : {A B : Type 0} {w : A → List ℕ} {O : A → Type 0} {w' : B → List ℕ} {O' : B → Type 0} (l l' : List ℕ) (f : A → B)
    → (GoesOn w O l → GoesOn w' O' l') → (x : Read A) → Waits w O l x → Waits w' O' l' (map_read f x)
waits_map l l' f k (refused n) h = λ e. k (h e)
waits_map l l' f k (got v rest) h = tt

-- ---- a number

groups_one : (n : ℕ) → groups n 1 ≡ 1 ∷ []
unfolding groups
groups_one zero = refl
groups_one (suc n) = refl

-- one group more in front
goes_on_under : (n b : ℕ) (l : List ℕ) → 128 ≤ b → b < 256 → GoesOn (groups n) (LaterOk n) l → GoesOn (groups (suc n)) (LaterOk (suc n)) (b ∷ l)
goes_on_under n b l h k g =
    record {
      value = under (b - 128) g.value;
      ok = later_under n b g.value h k g.ok;
      missing = g.missing;
      bytes = g.bytes;
      more = g.more;
      whole = ap (λ (t : List ℕ). b ∷ t) g.whole ∙ sym (groups_under n b g.value h k g.ok.0);
    }

later_waits : (n : ℕ) (l : List ℕ) → Bytes l → Waits (groups n) (LaterOk n) l (read_later n l)
unfolding read_later
later_waits n [] s = λ e. record { value = 1; ok = later_one n; missing = 1 ∷ []; bytes = bytes_one 1 (omega arith); more = omega arith; whole = sym (groups_one n) }
later_waits zero (b ∷ l) s =
    by_test (λ t. Waits (groups zero) (LaterOk zero) (b ∷ l) (cond t (got b l) wrong_byte)) (is_needed b && is_top b) (λ e. tt) (λ e f. absurd (omega (arith, ap refusal_number f)))
later_waits (suc n) (b ∷ l) s =
    by_test (λ t. Waits (groups (suc n)) (LaterOk (suc n)) (b ∷ l) (cond t (cond (is_last b) (got b l) (map_read (under (b - 128)) (read_later n l))) wrong_byte)) (is_needed b)
    (λ e. by_test (λ t. Waits (groups (suc n)) (LaterOk (suc n)) (b ∷ l) (cond t (got b l) (map_read (under (b - 128)) (read_later n l)))) (is_last b)
    (λ f. tt)
    (λ f. waits_map l (b ∷ l) (under (b - 128)) (goes_on_under n b l (omega (arith, ltb-false b _ f)) (s 0)) (read_later n l) (later_waits n l (λ i. s (suc i)))))
    (λ e f. absurd (omega (arith, ap refusal_number f)))

number_waits : (l : List ℕ) → Bytes l → Waits number_bytes (FieldOk number) l (read_number l)
unfolding read_number groups
number_waits [] s = λ e. record { value = 0; ok = omega arith; missing = 0 ∷ []; bytes = bytes_one 0 (omega arith); more = omega arith; whole = refl }
number_waits (b ∷ l) s =
    by_test (λ t. Waits number_bytes (FieldOk number) (b ∷ l) (cond t (got b l) (map_read (under (b - 128)) (read_later 3 l)))) (is_last b)
    (λ f. tt)
    (λ f. waits_map l (b ∷ l) (under (b - 128)) (λ g. small (goes_on_under 3 b l (omega (arith, ltb-false b _ f)) (s 0) g)) (read_later 3 l) (later_waits 3 l (λ i. s (suc i))))
  where
    small : GoesOn (groups 4) (LaterOk 4) (b ∷ l) → GoesOn number_bytes (FieldOk number) (b ∷ l)
    small g = record { value = g.value; ok = omega (arith, g.ok.1); missing = g.missing; bytes = g.bytes; more = g.more; whole = g.whole }

-- ---- fields

field_waits : (f : Field) (l : List ℕ) → Bytes l → Waits (field_bytes f) (FieldOk f) l (read_field f l)
field_waits number l s = number_waits l s
field_waits (plain n) l s =
    by_test (λ t. Waits (field_bytes (plain n)) (FieldOk (plain n)) l (cond t (got (take n l) (drop n l)) (refused cut_entry))) (leb n (length l))
    (λ e. tt)
    (λ e f. let h : length l < n = leb-false n (length l) e in
    let z : List ℕ = replicate (n - length l) 0 in
    let k : length z ≡ n - length l = length-replicate (n - length l) 0 in
    record { value = l ++ z; ok = omega (arith, length-append l z); missing = z; bytes = bytes_zeros (n - length l); more = omega arith; whole = refl })

-- values of all fields that are as short as can be
blank : (f : Field) → Value f
blank number = 0
blank (plain n) = replicate n 0

pub blanks : (fs : List Field) → Values fs
blanks [] = tt
blanks (f ∷ fs) = (blank f, blanks fs)

blank_ok : (f : Field) → FieldOk f (blank f)
unfolding blank
blank_ok number = omega arith
blank_ok (plain n) = length-replicate n 0

pub blanks_ok : (fs : List Field) → FieldsOk fs (blanks fs)
unfolding blanks
blanks_ok [] = tt
blanks_ok (f ∷ fs) = (blank_ok f, blanks_ok fs)

blank_bytes : (f : Field) → Bytes (field_bytes f (blank f))
unfolding blank groups
blank_bytes number = bytes_one 0 (omega arith)
blank_bytes (plain n) = bytes_zeros n

pub blanks_bytes : (fs : List Field) → Bytes (fields_bytes fs (blanks fs))
unfolding blanks
blanks_bytes [] = λ i. omega arith
blanks_bytes (f ∷ fs) = bytes_append (field_bytes f (blank f)) (fields_bytes fs (blanks fs)) (blank_bytes f) (blanks_bytes fs)

fields_wait : (fs : List Field) (l : List ℕ) → Bytes l → Waits (fields_bytes fs) (FieldsOk fs) l (read_fields fs l)
unfolding read_fields
fields_wait [] l s = tt
fields_wait (f ∷ fs) l s = onward (read_field f l) (field_says f l s) (field_waits f l s) (λ rest t. fields_wait fs rest t)
  where
    -- the first field is cut, or it is read and a later one is
    here : GoesOn (field_bytes f) (FieldOk f) l → GoesOn (fields_bytes (f ∷ fs)) (FieldsOk (f ∷ fs)) l
    here g =
        let b = fields_bytes fs (blanks fs) in
        record {
          value = (g.value, blanks fs);
          ok = (g.ok, blanks_ok fs);
          missing = g.missing ++ b;
          bytes = bytes_append g.missing b g.bytes (blanks_bytes fs);
          more = omega (arith, g.more, length-append g.missing b);
          whole = sym (append_assoc l g.missing b) ∙ ap (λ (t : List ℕ). t ++ b) g.whole;
        }

    behind : (v : Value f) (rest : List ℕ) → FieldIs f l v rest → GoesOn (fields_bytes fs) (FieldsOk fs) rest → GoesOn (fields_bytes (f ∷ fs)) (FieldsOk (f ∷ fs)) l
    behind v rest p g =
        record {
          value = (v, g.value);
          ok = (p.1, g.ok);
          missing = g.missing;
          bytes = g.bytes;
          more = g.more;
          whole =
              ap (λ (t : List ℕ). t ++ g.missing) (sym p.0)
              ∙ append_assoc (field_bytes f v) rest g.missing
              ∙ ap (λ (t : List ℕ). field_bytes f v ++ t) g.whole;
        }

    onward : (x : Read (Value f)) → Says (FieldIs f l) x → Waits (field_bytes f) (FieldOk f) l x
        → ((rest : List ℕ) → Bytes rest → Waits (fields_bytes fs) (FieldsOk fs) rest (read_fields fs rest))
        → Waits (fields_bytes (f ∷ fs)) (FieldsOk (f ∷ fs)) l (and_then x (λ v rest. map_read (λ vs. (v, vs)) (read_fields fs rest)))
    onward (refused n) p h k = λ e. here (h e)
    onward (got v rest) p h k = waits_map rest l (λ vs. (v, vs)) (behind v rest p) (read_fields fs rest) (k rest (bytes_rest (field_bytes f v) rest l p.0 s))

-- ---- an entry

form_waits : (k : ℕ) (l : List ℕ) (o : Option Form) → Bytes l → Found k o → Waits entry_bytes EntryOk (k ∷ l) (read_form o l)
form_waits k l none s h = λ e. absurd (omega (arith, ap refusal_number e))
form_waits k l (some f) s h = waits_map l (k ∷ l) (entry_of f) built (read_fields (fields_of f) l) (fields_wait (fields_of f) l s)
  where
    built : GoesOn (fields_bytes (fields_of f)) (FieldsOk (fields_of f)) l → GoesOn entry_bytes EntryOk (k ∷ l)
    built g =
        record {
          value = entry_of f g.value;
          ok = entry_ok f g.value g.ok;
          missing = g.missing;
          bytes = g.bytes;
          more = g.more;
          whole = rw h (ap (λ (t : List ℕ). kind_byte f ∷ t) g.whole ∙ sym (entry_bytes_law f g.value));
        }

pub entry_waits : (k : ℕ) (l : List ℕ) → Bytes (k ∷ l) → Waits entry_bytes EntryOk (k ∷ l) (read_entry (k ∷ l))
unfolding read_entry
entry_waits k l s = form_waits k l (form_at k) (λ i. s (suc i)) (found k forms)

-- the other way: while bytes of an entry are missing, reading waits for them
pub prefix_waits : (e : Entry) (l m : List ℕ) → EntryOk e → 0 < length m → l ++ m ≡ entry_bytes e → read_entry l ≡ refused cut_entry
prefix_waits e l m ok k w = by_reading (read_entry l) (rw (w ∙ sym (append-nil (entry_bytes e)), read_entry_law e [] ok) at (entry_grows m l))
  where
    by_reading : (x : Read Entry) → Grows m x (got e []) → x ≡ refused cut_entry
    by_reading (refused n) g = elim (cut_or_not n) [
      | inl z ↦ ap refused z
      | inr ne ↦ (let q : got e [] ≡ refused n = g ne in let z : ◌≡◌ {A = ℕ} 0 1 = cc in absurd (omega arith))
    ]
    by_reading (got v rest) g =
        let q : [] ≡ rest ++ m = cc in
        absurd (omega (arith, ap length q, length-append rest m))
