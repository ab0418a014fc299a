-- What reading does with the bytes behind an entry: it leaves fewer, more bytes change nothing that was decided, and a cut entry is short. Assumes nothing.
use Prim.Native.Nat.{ℕ, zero, suc, ◌+◌, ◌-◌, ◌≤◌}
use mathlib.Core.Path.{◌≡◌, refl, sym, ap, ◌∙◌}
use mathlib.Core.Bool.{cond, ◌&&◌}
use mathlib.Core.Logic.{◌⊎◌, inl, inr}
use mathlib.Core.List.{List, [], ◌∷◌, ◌++◌, append_assoc}
use mathlib.Core.Option.{Option, none, some}
use native.Mathlib.Omega.{arith}
use lib.Dec.{leb}
use lib.ListN.{length, take, drop, length-append, length-drop, take-append-drop}
use lib.Seq.{take-append-le, drop-append-le}
use borrow.Author.Tests.{le-leb, leb-true, leb-false}
use Rattle.layout.specs.Numbers.{refusal_number}
use Rattle.layout.specs.Refusals.{unlisted_kind, bad_number, cut_entry}
use Rattle.journal.specs.Read.{Read, refused, got, and_then, map_read}
use Rattle.journal.specs.Numbers.{under, is_last, is_needed, is_top, wrong_byte, read_later, read_number}
use Rattle.journal.specs.Fields.{Field, number, plain, Value, Values, read_field, read_fields}
use Rattle.journal.specs.Entries.{Entry, Form, cold_boot_form, update_form, disabling_form, stash_form, extension_form, derive_form, extend_form, rotate_form, destroy_form, form_at, fields_of, entry_of, read_form, read_entry, longest}
use Rattle.journal.specs.Statements.{Grows, Stays, Takes, TakesFew}
use Rattle.journal.proofs.Says.{by_test}

-- ---- more bytes behind: what was read stays, and so does every refusal but "cut entry"

grows_map : {A B : Type 0} (m : List ℕ) (f : A → B) (x y : Read A) → Grows m x y → Grows m (map_read f x) (map_read f y)
grows_map m f (refused n) y h = λ ne. ap (map_read f) (h ne)
grows_map m f (got v rest) y h = ap (map_read f) h

grows_then : {A B : Type 0} (m : List ℕ) (f : A → List ℕ → Read B) (x y : Read A)
    → ((v : A) (rest : List ℕ) → Grows m (f v rest) (f v (rest ++ m))) → Grows m x y → Grows m (and_then x f) (and_then y f)
grows_then m f (refused n) y k h = λ ne. ap (λ z. and_then z f) (h ne)
grows_then m f (got v rest) y k h = rw h (k v rest)

later_grows : (m : List ℕ) (n : ℕ) (l : List ℕ) → Grows m (read_later n l) (read_later n (l ++ m))
unfolding read_later
later_grows m n [] = λ ne. absurd (ne refl)
later_grows m zero (b ∷ l) =
    by_test (λ t. Grows m (cond t (got b l) wrong_byte) (cond t (got b (l ++ m)) wrong_byte)) (is_needed b && is_top b) (λ e. refl) (λ e ne. refl)
later_grows m (suc n) (b ∷ l) =
    by_test (λ t. Grows m (cond t (cond (is_last b) (got b l) (map_read (under (b - 128)) (read_later n l))) wrong_byte)
    (cond t (cond (is_last b) (got b (l ++ m)) (map_read (under (b - 128)) (read_later n (l ++ m)))) wrong_byte)) (is_needed b)
    (λ e. by_test (λ t. Grows m (cond t (got b l) (map_read (under (b - 128)) (read_later n l))) (cond t (got b (l ++ m)) (map_read (under (b - 128)) (read_later n (l ++ m))))) (is_last b)
    (λ e. refl)
    (λ e. grows_map m (under (b - 128)) (read_later n l) (read_later n (l ++ m)) (later_grows m n l)))
    (λ e ne. refl)

number_grows : (m l : List ℕ) → Grows m (read_number l) (read_number (l ++ m))
unfolding read_number
number_grows m [] = λ ne. absurd (ne refl)
number_grows m (b ∷ l) =
    by_test (λ t. Grows m (cond t (got b l) (map_read (under (b - 128)) (read_later 3 l))) (cond t (got b (l ++ m)) (map_read (under (b - 128)) (read_later 3 (l ++ m))))) (is_last b)
    (λ e. refl)
    (λ e. grows_map m (under (b - 128)) (read_later 3 l) (read_later 3 (l ++ m)) (later_grows m 3 l))

field_grows : (m : List ℕ) (f : Field) (l : List ℕ) → Grows m (read_field f l) (read_field f (l ++ m))
field_grows m number l = number_grows m l
field_grows m (plain n) l =
    by_test (λ t. Grows m (cond t (got (take n l) (drop n l)) (refused cut_entry)) (read_field (plain n) (l ++ m))) (leb n (length l))
    (λ e. let h : n ≤ length l = leb-true n (length l) e in
    rw (le-leb n (length (l ++ m)) (omega (arith, length-append l m)), take-append-le n l m h, drop-append-le n l m h))
    (λ e ne. absurd (ne refl))

fields_grow : (m : List ℕ) (fs : List Field) (l : List ℕ) → Grows m (read_fields fs l) (read_fields fs (l ++ m))
unfolding read_fields
fields_grow m [] l = refl
fields_grow m (f ∷ fs) l =
    grows_then m (λ v rest. map_read (λ vs. (v, vs)) (read_fields fs rest)) (read_field f l) (read_field f (l ++ m))
    (λ v rest. grows_map m (λ vs. (v, vs)) (read_fields fs rest) (read_fields fs (rest ++ m)) (fields_grow m fs rest))
    (field_grows m f l)

form_grows : (m : List ℕ) (o : Option Form) (l : List ℕ) → Grows m (read_form o l) (read_form o (l ++ m))
form_grows m none l = λ ne. refl
form_grows m (some f) l = grows_map m (entry_of f) (read_fields (fields_of f) l) (read_fields (fields_of f) (l ++ m)) (fields_grow m (fields_of f) l)

pub entry_grows : Stays
unfolding read_entry
entry_grows m [] = λ ne. absurd (ne refl)
entry_grows m (k ∷ l) = form_grows m (form_at k) l

-- ---- how much is read: at least a byte of an entry, and a cut one is shorter than the longest

takes_map : {A B : Type 0} (few most : ℕ) (l : List ℕ) (f : A → B) (x : Read A) → Takes few most l x → Takes few most l (map_read f x)
takes_map few most l f (refused n) h = h
takes_map few most l f (got v rest) h = h

-- the same of one byte more in front
takes_more : {A : Type 0} (few most b : ℕ) (l : List ℕ) (x : Read A) → Takes few most l x → Takes 1 (suc most) (b ∷ l) x
takes_more few most b l (refused n) h = λ e. omega (arith, h e)
takes_more few most b l (got v rest) h = (omega (arith, h.0), omega (arith, h.1))

later_takes : (n : ℕ) (l : List ℕ) → Takes 1 (suc n) l (read_later n l)
unfolding read_later
later_takes n [] = λ e. omega arith
later_takes zero (b ∷ l) =
    by_test (λ t. Takes 1 1 (b ∷ l) (cond t (got b l) wrong_byte)) (is_needed b && is_top b) (λ e. (omega arith, omega arith)) (λ e f. absurd (omega (arith, ap refusal_number f)))
later_takes (suc n) (b ∷ l) =
    by_test (λ t. Takes 1 (suc (suc n)) (b ∷ l) (cond t (cond (is_last b) (got b l) (map_read (under (b - 128)) (read_later n l))) wrong_byte)) (is_needed b)
    (λ e. by_test (λ t. Takes 1 (suc (suc n)) (b ∷ l) (cond t (got b l) (map_read (under (b - 128)) (read_later n l)))) (is_last b)
    (λ e. (omega arith, omega arith))
    (λ e. takes_map 1 (suc (suc n)) (b ∷ l) (under (b - 128)) (read_later n l) (takes_more 1 (suc n) b l (read_later n l) (later_takes n l))))
    (λ e f. absurd (omega (arith, ap refusal_number f)))

number_takes : (l : List ℕ) → Takes 1 5 l (read_number l)
unfolding read_number
number_takes [] = λ e. omega arith
number_takes (b ∷ l) =
    by_test (λ t. Takes 1 5 (b ∷ l) (cond t (got b l) (map_read (under (b - 128)) (read_later 3 l)))) (is_last b)
    (λ e. (omega arith, omega arith))
    (λ e. takes_map 1 5 (b ∷ l) (under (b - 128)) (read_later 3 l) (takes_more 1 4 b l (read_later 3 l) (later_takes 3 l)))

abbrev pub most_of : Field → ℕ
most_of number = 5
most_of (plain n) = n

abbrev pub most_in : List Field → ℕ
most_in [] = 0
most_in (f ∷ fs) = most_of f + most_in fs

field_takes : (f : Field) (l : List ℕ) → Takes 0 (most_of f) l (read_field f l)
field_takes number l = fewer (read_number l) (number_takes l)
  where
    fewer : (x : Read ℕ) → Takes 1 5 l x → Takes 0 5 l x
    fewer (refused n) h = h
    fewer (got v rest) h = (omega (arith, h.0), h.1)
field_takes (plain n) l =
    by_test (λ t. Takes 0 n l (cond t (got (take n l) (drop n l)) (refused cut_entry))) (leb n (length l))
    (λ e. (omega (arith, length-drop n l), omega (arith, length-drop n l)))
    (λ e f. leb-false n (length l) e)

fields_take : (fs : List Field) (l : List ℕ) → Takes 0 (most_in fs) l (read_fields fs l)
unfolding read_fields
fields_take [] l = (omega arith, omega arith)
fields_take (f ∷ fs) l = joined (read_field f l) (field_takes f l) (λ rest. fields_take fs rest)
  where
    behind : (v : Value f) (rest : List ℕ) (x : Read (Values fs)) → (length rest ≤ length l) × (length l ≤ most_of f + length rest)
        → Takes 0 (most_in fs) rest x → Takes {A = Values (f ∷ fs)} 0 (most_of f + most_in fs) l (map_read (λ vs. (v, vs)) x)
    behind v rest (refused n) p h = λ e. omega (arith, h e, p.1)
    behind v rest (got vs after) p h = (omega (arith, h.0, p.0), omega (arith, h.1, p.1))

    joined : (x : Read (Value f)) → Takes 0 (most_of f) l x → ((rest : List ℕ) → Takes 0 (most_in fs) rest (read_fields fs rest))
        → Takes {A = Values (f ∷ fs)} 0 (most_of f + most_in fs) l (and_then x (λ v rest. map_read (λ vs. (v, vs)) (read_fields fs rest)))
    joined (refused n) h k = λ e. omega (arith, h e)
    joined (got v rest) h k = behind v rest (read_fields fs rest) (omega (arith, h.0), h.1) (k rest)

form_fits : (f : Form) → suc (most_in (fields_of f)) ≤ longest
form_fits cold_boot_form = omega arith
form_fits update_form = omega arith
form_fits disabling_form = omega arith
form_fits stash_form = omega arith
form_fits extension_form = omega arith
form_fits derive_form = omega arith
form_fits extend_form = omega arith
form_fits rotate_form = omega arith
form_fits destroy_form = omega arith

form_takes : (k : ℕ) (o : Option Form) (l : List ℕ) → Takes 1 longest (k ∷ l) (read_form o l)
form_takes k none l = λ e. absurd (omega (arith, ap refusal_number e))
form_takes k (some f) l =
    takes_map 1 longest (k ∷ l) (entry_of f) (read_fields (fields_of f) l)
    (wider (read_fields (fields_of f) l) (takes_more 0 (most_in (fields_of f)) k l (read_fields (fields_of f) l) (fields_take (fields_of f) l)))
  where
    wider : (x : Read (Values (fields_of f))) → Takes 1 (suc (most_in (fields_of f))) (k ∷ l) x → Takes 1 longest (k ∷ l) x
    wider (refused n) h = λ e. omega (arith, h e, form_fits f)
    wider (got v rest) h = (h.0, omega (arith, h.1, form_fits f))

pub entry_takes : TakesFew
unfolding read_entry
entry_takes [] = λ e. omega arith
entry_takes (k ∷ l) = form_takes k (form_at k) l

-- ---- what fields leave is the end of the list, and they are refused with 21 or 22

abbrev pub Leaves : {A : Type 0} → List ℕ → Read A → Type 0
Leaves l (refused n) = (n ≡ bad_number) ⊎ (n ≡ cut_entry)
Leaves l (got v rest) = (m : List ℕ) × (l ≡ m ++ rest)

leaves_map : {A B : Type 0} (l : List ℕ) (f : A → B) (x : Read A) → Leaves l x → Leaves l (map_read f x)
leaves_map l f (refused n) h = h
leaves_map l f (got v rest) h = h

-- the same with bytes more in front
leaves_more : {A : Type 0} (m l : List ℕ) (x : Read A) → Leaves l x → Leaves (m ++ l) x
leaves_more m l (refused n) h = h
leaves_more m l (got v rest) h = (m ++ h.0, ap (λ (t : List ℕ). m ++ t) h.1 ∙ sym (append_assoc m h.0 rest))

pub later_leaves : (n : ℕ) (l : List ℕ) → Leaves l (read_later n l)
unfolding read_later
later_leaves n [] = inr refl
later_leaves zero (b ∷ l) =
    by_test (λ t. Leaves (b ∷ l) (cond t (got b l) wrong_byte)) (is_needed b && is_top b) (λ e. (b ∷ [], refl)) (λ e. inl refl)
later_leaves (suc n) (b ∷ l) =
    by_test (λ t. Leaves (b ∷ l) (cond t (cond (is_last b) (got b l) (map_read (under (b - 128)) (read_later n l))) wrong_byte)) (is_needed b)
    (λ e. by_test (λ t. Leaves (b ∷ l) (cond t (got b l) (map_read (under (b - 128)) (read_later n l)))) (is_last b)
    (λ e. (b ∷ [], refl))
    (λ e. leaves_map (b ∷ l) (under (b - 128)) (read_later n l) (leaves_more (b ∷ []) l (read_later n l) (later_leaves n l))))
    (λ e. inl refl)

pub number_leaves : (l : List ℕ) → Leaves l (read_number l)
unfolding read_number
number_leaves [] = inr refl
number_leaves (b ∷ l) =
    by_test (λ t. Leaves (b ∷ l) (cond t (got b l) (map_read (under (b - 128)) (read_later 3 l)))) (is_last b)
    (λ e. (b ∷ [], refl))
    (λ e. leaves_map (b ∷ l) (under (b - 128)) (read_later 3 l) (leaves_more (b ∷ []) l (read_later 3 l) (later_leaves 3 l)))

field_leaves : (f : Field) (l : List ℕ) → Leaves l (read_field f l)
field_leaves number l = number_leaves l
field_leaves (plain n) l =
    by_test (λ t. Leaves l (cond t (got (take n l) (drop n l)) (refused cut_entry))) (leb n (length l))
    (λ e. (take n l, sym (take-append-drop n l)))
    (λ e. inr refl)

pub fields_leave : (fs : List Field) (l : List ℕ) → Leaves l (read_fields fs l)
unfolding read_fields
fields_leave [] l = ([], refl)
fields_leave (f ∷ fs) l = onward (read_field f l) (field_leaves f l) (λ rest. fields_leave fs rest)
  where
    onward : (x : Read (Value f)) → Leaves l x → ((rest : List ℕ) → Leaves rest (read_fields fs rest))
        → Leaves {A = Values (f ∷ fs)} l (and_then x (λ v rest. map_read (λ vs. (v, vs)) (read_fields fs rest)))
    onward (refused n) h k = h
    onward (got v rest) h k =
        rw h.1 (leaves_more h.0 rest (map_read (λ vs. (v, vs)) (read_fields fs rest)) (leaves_map rest (λ vs. (v, vs)) (read_fields fs rest) (k rest)))

-- the same of an entry, which is refused with 20 too
abbrev pub EntryLeaves : List ℕ → Read Entry → Type 0
EntryLeaves l (refused n) = (n ≡ unlisted_kind) ⊎ ((n ≡ bad_number) ⊎ (n ≡ cut_entry))
EntryLeaves l (got e rest) = (m : List ℕ) × (l ≡ m ++ rest)

form_leaves : (k : ℕ) (o : Option Form) (l : List ℕ) → EntryLeaves (k ∷ l) (read_form o l)
form_leaves k none l = inl refl
form_leaves k (some f) l = onward (read_fields (fields_of f) l) (fields_leave (fields_of f) l)
  where
    onward : (x : Read (Values (fields_of f))) → Leaves l x → EntryLeaves (k ∷ l) (map_read (entry_of f) x)
    onward (refused n) h = inr h
    onward (got vs rest) h = (k ∷ h.0, ap (λ (t : List ℕ). k ∷ t) h.1)

pub entry_leaves : (l : List ℕ) → EntryLeaves l (read_entry l)
unfolding read_entry
entry_leaves [] = inr (inr refl)
entry_leaves (k ∷ l) = form_leaves k (form_at k) l
