-- No entry is longer than the longest, whatever its numbers are. Assumes nothing.
use Prim.Native.Nat.{ℕ, zero, suc, ◌+◌, ◌/◌, ◌%◌, ◌≤◌}
use native.Mathlib.Omega.{arith}
use mathlib.Core.Bool.{Bool, true, false, cond}
use mathlib.Core.List.{List, [], ◌∷◌}
use lib.Dec.{ltb}
use lib.ListN.{length, length-append}
use Rattle.journal.specs.Numbers.{groups}
use Rattle.journal.specs.Fields.{Field, number, plain, Value, Values, field_bytes, fields_bytes}
use Rattle.journal.specs.Entries.{Entry, form_of, fields_of, values_of, entry_bytes, journal_bytes, longest}
use Rattle.journal.proofs.Fields.{FieldSized, FieldsSized}
use Rattle.journal.proofs.Behind.{most_of, most_in}

groups_short : (n x : ℕ) → length (groups n x) ≤ suc n
unfolding groups
groups_short zero x = omega arith
groups_short (suc n) x = go (ltb x 128) (groups_short n (x / 128))
  where
    go : (b : Bool) → length (groups n (x / 128)) ≤ suc n → length (cond b (x ∷ []) ((128 + x % 128) ∷ groups n (x / 128))) ≤ suc (suc n)
    go true h = omega arith
    go false h = omega arith

field_short : (f : Field) (v : Value f) → FieldSized f v → length (field_bytes f v) ≤ most_of f
field_short number v h = groups_short 4 v
field_short (plain n) v h = omega (arith, h)

pub fields_short : (fs : List Field) (vs : Values fs) → FieldsSized fs vs → length (fields_bytes fs vs) ≤ most_in fs
fields_short [] vs h = omega arith
fields_short (f ∷ fs) vs h =
    omega (
      arith,
      length-append (field_bytes f vs.0) (fields_bytes fs vs.1),
      field_short f vs.0 h.0,
      fields_short fs vs.1 h.1,
    )

-- the kind's byte and the fields
pub entry_most : (e : Entry) → FieldsSized (fields_of (form_of e)) (values_of e) → length (entry_bytes e) ≤ suc (most_in (fields_of (form_of e)))
unfolding entry_bytes
entry_most e h = omega (arith, fields_short (fields_of (form_of e)) (values_of e) h)

pub entry_short : (e : Entry) → FieldsSized (fields_of (form_of e)) (values_of e) → suc (most_in (fields_of (form_of e))) ≤ longest
    → length (journal_bytes (e ∷ [])) ≤ longest
entry_short e h m = omega (arith, length-append (entry_bytes e) [], entry_most e h)
