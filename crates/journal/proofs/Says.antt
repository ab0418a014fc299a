-- Laws of what a reading gives, stated of the reading itself and not of an equation of it, so that no equation has to be taken apart. Assumes nothing.
use Prim.Native.Nat.{ℕ}
use mathlib.Core.Path.{◌≡◌, refl}
use mathlib.Core.Bool.{Bool, true, false}
use mathlib.Core.List.{List}
use Rattle.journal.specs.Read.{Read, refused, got, and_then, map_read}

-- P holds of what was read and of the bytes behind it
abbrev pub Says : {A : Type 0} → (A → List ℕ → Type 0) → Read A → Type 0
Says P (refused n) = Unit {0}
Says P (got v rest) = P v rest

pub says_map : {A B : Type 0} (f : A → B) (P : A → List ℕ → Type 0) (Q : B → List ℕ → Type 0) (x : Read A)
    → ((v : A) (rest : List ℕ) → P v rest → Q (f v) rest) → Says P x → Says Q (map_read f x)
says_map f P Q (refused n) h s = tt
says_map f P Q (got v rest) h s = h v rest s

pub says_then : {A B : Type 0} (f : A → List ℕ → Read B) (P : A → List ℕ → Type 0) (Q : B → List ℕ → Type 0) (x : Read A)
    → ((v : A) (rest : List ℕ) → P v rest → Says Q (f v rest)) → Says P x → Says Q (and_then x f)
says_then f P Q (refused n) h s = tt
says_then f P Q (got v rest) h s = h v rest s

-- by a test, with its outcome
pub by_test : (P : Bool → Type 0) (t : Bool) → (t ≡ true → P true) → (t ≡ false → P false) → P t
by_test P true a b = a refl
by_test P false a b = b refl
