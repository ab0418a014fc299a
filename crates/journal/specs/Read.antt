-- What reading at the front of a byte list gives. Assumes nothing.
use Rattle.std.specs.Prelude.{ℕ, List}
use Rattle.layout.specs.declared.refusals.Refusal.{Refusal}

-- a refusal, or a value and the bytes behind it
pub data Read (A : Type 0) : Type 0 where
  refused : Refusal → Read A
  got : A → List ℕ → Read A

-- go on behind what was read; a refusal stays
abbrev pub and_then : {A B : Type 0} → Read A → (A → List ℕ → Read B) → Read B
and_then (refused n) f = refused n
and_then (got v rest) f = f v rest

-- the value changed
abbrev pub map_read : {A B : Type 0} → (A → B) → Read A → Read B
map_read f (refused n) = refused n
map_read f (got v rest) = got (f v) rest
