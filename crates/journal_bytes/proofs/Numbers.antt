-- A number is no longer than what it is read from. Assumes nothing.
use Prim.Native.Nat.{ℕ, ◌≤◌}
use mathlib.Core.Path.{◌≡◌, ap}
use mathlib.Core.List.{List}
use native.Mathlib.Omega.{arith}
use lib.ListN.{length, length-append}
use Rattle.journal.specs.Read.{Read, refused, got}
use Rattle.journal.specs.Numbers.{read_number}
use Rattle.journal.proofs.Behind.{Leaves, number_leaves}

pub number_fits : (l : List ℕ) (v : ℕ) (rest : List ℕ) → got v rest ≡ read_number l → length rest ≤ length l
number_fits l v rest e = fits (read_number l) (number_leaves l) e
  where
    fits : (x : Read ℕ) → Leaves l x → got v rest ≡ x → length rest ≤ length l
    fits (refused r) h e = let z : ◌≡◌ {A = ℕ} 0 1 = cc in absurd (omega arith)
    fits (got w m) h e = let q : rest ≡ m = cc in omega (arith, ap length h.1, length-append h.0 m, ap length q)
