-- Lists of bytes, taken apart and joined. Assumes nothing.
use Prim.Native.Nat.{ℕ, zero, suc, ◌<◌}
use mathlib.Core.Path.{◌≡◌, refl}
use mathlib.Core.List.{List, [], ◌∷◌, ◌++◌}
use native.Mathlib.Omega.{arith}
use lib.ListN.{get_or, replicate}
use Rattle.journal.specs.Statements.{Bytes}

-- the bytes behind some bytes
pub bytes_rest : (a rest l : List ℕ) → a ++ rest ≡ l → Bytes l → Bytes rest
bytes_rest [] rest l e s = λ i. rw e (s i)
bytes_rest (x ∷ a) rest l e s = bytes_rest a rest (a ++ rest) refl (λ i. rw (← e) at (s (suc i)))

-- and those before
pub bytes_front : (a rest l : List ℕ) → a ++ rest ≡ l → Bytes l → Bytes a
bytes_front a rest l e s = front a (rw (← e) at s)
  where
    front : (a : List ℕ) → Bytes (a ++ rest) → Bytes a
    front [] t = λ i. omega arith
    front (x ∷ a) t = go (front a (λ i. t (suc i)))
      where
        go : Bytes a → (i : ℕ) → get_or (x ∷ a) i 0 < 256
        go h zero = t 0
        go h (suc i) = h i

pub bytes_append : (a b : List ℕ) → Bytes a → Bytes b → Bytes (a ++ b)
bytes_append [] b s t = t
bytes_append (x ∷ a) b s t = go (bytes_append a b (λ i. s (suc i)) t)
  where
    go : Bytes (a ++ b) → (i : ℕ) → get_or (x ∷ (a ++ b)) i 0 < 256
    go h zero = s 0
    go h (suc i) = h i

pub bytes_one : (b : ℕ) → b < 256 → Bytes (b ∷ [])
bytes_one b h zero = h
bytes_one b h (suc i) = omega arith

pub bytes_zeros : (n : ℕ) → Bytes (replicate n 0)
bytes_zeros zero = λ i. omega arith
bytes_zeros (suc n) = go (bytes_zeros n)
  where
    go : Bytes (replicate n 0) → (i : ℕ) → get_or (0 ∷ replicate n 0) i 0 < 256
    go h zero = omega arith
    go h (suc i) = h i
