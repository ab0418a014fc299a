-- Fields: what is written is read back, and what is read is what is written. Assumes nothing.
use Prim.Native.Nat.{ℕ}
use mathlib.Core.Path.{◌≡◌, refl, ap, ◌∙◌}
use mathlib.Core.Bool.{cond}
use mathlib.Core.List.{List, [], ◌∷◌, ◌++◌, append_assoc}
use native.Mathlib.Omega.{arith}
use lib.ListN.{length, take, drop, length-append, take-append-drop}
use lib.Seq.{take_at, drop_at, length-take-le}
use lib.Dec.{leb}
use borrow.Author.Tests.{le-leb, leb-true}
use Rattle.layout.specs.Refusals.{cut_entry}
use Rattle.journal.specs.Read.{Read, refused, got, and_then, map_read}
use Rattle.journal.specs.Numbers.{read_number}
use Rattle.journal.specs.Fields.{Field, number, plain, Value, Values, FieldOk, FieldsOk, field_bytes, fields_bytes, read_field, read_fields}
use Rattle.journal.specs.Statements.{Bytes}
use Rattle.journal.proofs.Bytes.{bytes_rest}
use Rattle.journal.proofs.Says.{Says, says_map, says_then, by_test}
use Rattle.journal.proofs.Numbers.{read_number_law, number_says}

-- ---- what is written is read back

pub read_field_law : (f : Field) (v : Value f) (l : List ℕ) → FieldOk f v → read_field f (field_bytes f v ++ l) ≡ got v l
read_field_law number v l h = read_number_law v l h
read_field_law (plain n) v l h =
    rw (le-leb n (length (v ++ l)) (omega (arith, length-append v l)), take_at v l n h, drop_at v l n h)

pub read_fields_law : (fs : List Field) (vs : Values fs) (l : List ℕ) → FieldsOk fs vs → read_fields fs (fields_bytes fs vs ++ l) ≡ got vs l
unfolding read_fields
read_fields_law [] vs l h = refl
read_fields_law (f ∷ fs) vs l h =
    rw (append_assoc, read_field_law f vs.0 (fields_bytes fs vs.1 ++ l) h.0, read_fields_law fs vs.1 l h.1)

-- ---- fields behind fields

abbrev pub join : (fs gs : List Field) → Values fs → Values gs → Values (fs ++ gs)
join [] gs vs ws = ws
join (f ∷ fs) gs vs ws = (vs.0, join fs gs vs.1 ws)

pub fields_append : (fs gs : List Field) (l : List ℕ)
    → read_fields (fs ++ gs) l ≡ and_then (read_fields fs l) (λ vs rest. map_read (join fs gs vs) (read_fields gs rest))
unfolding read_fields
fields_append [] gs l = same (read_fields gs l)
  where
    same : (x : Read (Values gs)) → x ≡ map_read (λ ws. ws) x
    same (refused n) = refl
    same (got ws rest) = refl
fields_append (f ∷ fs) gs l = by_first (read_field f l) (λ rest. fields_append fs gs rest)
  where
    by_rest : (v : Value f) (x : Read (Values fs))
        → map_read (λ ws. (v, ws)) (and_then x (λ vs rest. map_read (join fs gs vs) (read_fields gs rest)))
        ≡ and_then (map_read (λ vs. (v, vs)) x) (λ vs rest. map_read (join (f ∷ fs) gs vs) (read_fields gs rest))
    by_rest v (refused n) = refl
    by_rest v (got vs rest) = twice (read_fields gs rest)
      where
        twice : (y : Read (Values gs)) → map_read (λ ws. (v, ws)) (map_read (join fs gs vs) y) ≡ map_read (join (f ∷ fs) gs (v, vs)) y
        twice (refused n) = refl
        twice (got ws rest) = refl

    by_first : (x : Read (Value f))
        → ((rest : List ℕ) → read_fields (fs ++ gs) rest ≡ and_then (read_fields fs rest) (λ vs rest. map_read (join fs gs vs) (read_fields gs rest)))
        → and_then x (λ v rest. map_read (λ ws. (v, ws)) (read_fields (fs ++ gs) rest))
        ≡ and_then (and_then x (λ v rest. map_read (λ vs. (v, vs)) (read_fields fs rest))) (λ vs rest. map_read (join (f ∷ fs) gs vs) (read_fields gs rest))
    by_first (refused n) k = refl
    by_first (got v rest) k = ap (map_read (λ ws. (v, ws))) (k rest) ∙ by_rest v (read_fields fs rest)

-- ---- what is read is what is written

abbrev pub FieldIs : (f : Field) → List ℕ → Value f → List ℕ → Type 0
FieldIs f l v rest = (field_bytes f v ++ rest ≡ l) × FieldOk f v

abbrev pub FieldsAre : (fs : List Field) → List ℕ → Values fs → List ℕ → Type 0
FieldsAre fs l vs rest = (fields_bytes fs vs ++ rest ≡ l) × FieldsOk fs vs

pub field_says : (f : Field) (l : List ℕ) → Bytes l → Says (FieldIs f l) (read_field f l)
field_says number l s = number_says l s
field_says (plain n) l s =
    by_test (λ t. Says (FieldIs (plain n) l) (cond t (got (take n l) (drop n l)) (refused cut_entry))) (leb n (length l))
    (λ e. (take-append-drop n l, length-take-le n l (leb-true n (length l) e)))
    (λ e. tt)

pub fields_say : (fs : List Field) (l : List ℕ) → Bytes l → Says (FieldsAre fs l) (read_fields fs l)
unfolding read_fields
fields_say [] l s = (refl, tt)
fields_say (f ∷ fs) l s =
    says_then (λ v rest. map_read (λ vs. (v, vs)) (read_fields fs rest)) (FieldIs f l) (FieldsAre (f ∷ fs) l) (read_field f l)
    (λ v rest p. onward v rest p (fields_say fs rest (bytes_rest (field_bytes f v) rest l p.0 s)))
    (field_says f l s)
  where
    onward : (v : Value f) (rest : List ℕ) → FieldIs f l v rest → Says (FieldsAre fs rest) (read_fields fs rest) → Says (FieldsAre (f ∷ fs) l) (map_read (λ vs. (v, vs)) (read_fields fs rest))
    onward v rest p h =
        says_map (λ vs. (v, vs)) (FieldsAre fs rest) (FieldsAre (f ∷ fs) l) (read_fields fs rest)
        (λ vs behind q. (append_assoc (field_bytes f v) (fields_bytes fs vs) behind ∙ ap (λ (t : List ℕ). field_bytes f v ++ t) q.0 ∙ p.0, (p.1, q.1)))
        h

-- ---- plain bytes that are read have their number, whether or not the list's numbers are bytes

abbrev pub FieldSized : (f : Field) → Value f → Type 0
FieldSized number v = Unit {0}
FieldSized (plain n) v = length v ≡ n

abbrev pub FieldsSized : (fs : List Field) → Values fs → Type 0
FieldsSized [] vs = Unit {0}
FieldsSized (f ∷ fs) vs = FieldSized f vs.0 × FieldsSized fs vs.1

field_sized : (f : Field) (l : List ℕ) → Says (λ v rest. FieldSized f v) (read_field f l)
field_sized number l = any_number (read_number l)
  where
    any_number : (x : Read ℕ) → Says (λ v rest. Unit {0}) x
    any_number (refused n) = tt
    any_number (got v rest) = tt
field_sized (plain n) l =
    by_test (λ t. Says (λ v rest. FieldSized (plain n) v) (cond t (got (take n l) (drop n l)) (refused cut_entry))) (leb n (length l))
    (λ e. length-take-le n l (leb-true n (length l) e))
    (λ e. tt)

pub fields_sized : (fs : List Field) (l : List ℕ) → Says (λ vs rest. FieldsSized fs vs) (read_fields fs l)
unfolding read_fields
fields_sized [] l = tt
fields_sized (f ∷ fs) l =
    says_then (λ v rest. map_read (λ vs. (v, vs)) (read_fields fs rest)) (λ v rest. FieldSized f v) (λ vs rest. FieldsSized (f ∷ fs) vs) (read_field f l)
    (λ v rest h. says_map (λ vs. (v, vs)) (λ vs rest. FieldsSized fs vs) (λ vs rest. FieldsSized (f ∷ fs) vs) (read_fields fs rest)
    (λ vs behind q. (h, q))
    (fields_sized fs rest))
    (field_sized f l)
