-- Fields one after another: numbers, and plain bytes of a fixed number. Assumes nothing.
use Rattle.std.specs.Prelude.{ℕ, ◌^◌, ◌<◌, ◌≡◌, cond, List, [], ◌∷◌, ◌++◌, leb, length, take, drop}
use Rattle.layout.specs.declared.refusals.Refusal.TheVariants.{CutEntry}
use Rattle.journal.specs.Read.{Read, refused, got, and_then, map_read}
use Rattle.journal.specs.Numbers.{number_bytes, read_number}

pub data Field : Type 0 where
  number : Field
  plain : ℕ → Field

abbrev pub Value : Field → Type 0
Value number = ℕ
Value (plain n) = List ℕ

abbrev pub Values : List Field → Type 0
Values [] = Unit {0}
Values (f ∷ fs) = Value f × Values fs

abbrev pub field_bytes : (f : Field) → Value f → List ℕ
field_bytes number v = number_bytes v
field_bytes (plain n) v = v

abbrev pub fields_bytes : (fs : List Field) → Values fs → List ℕ
fields_bytes [] vs = []
fields_bytes (f ∷ fs) vs = field_bytes f vs.0 ++ fields_bytes fs vs.1

abbrev pub read_field : (f : Field) → List ℕ → Read (Value f)
read_field number l = read_number l
read_field (plain n) l = cond (leb n (length l)) (got (take n l) (drop n l)) (refused CutEntry)

unfoldable pub read_fields : (fs : List Field) → List ℕ → Read (Values fs)
read_fields [] l = got tt l
read_fields (f ∷ fs) l = and_then (read_field f l) (λ v rest. map_read (λ vs. (v, vs)) (read_fields fs rest))

-- ---- the values that a field can hold

abbrev pub FieldOk : (f : Field) → Value f → Type 0
FieldOk number v = v < 2 ^ 32
FieldOk (plain n) v = length v ≡ n

abbrev pub FieldsOk : (fs : List Field) → Values fs → Type 0
FieldsOk [] vs = Unit {0}
FieldsOk (f ∷ fs) vs = FieldOk f vs.0 × FieldsOk fs vs.1
