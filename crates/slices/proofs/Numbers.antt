-- std's little-endian numbers of two, four and eight bytes of a list. Assumes nothing.
use Rattle.std.proofs.Common.{◌≡◌, ◌+◌, ◌<◌, ◌≤◌, ◌∙◌, ℕ, List, get_or, ap, arith, add-zero}
use Rattle.std.specs.Int.{from_le_bytes, w16, w32, w64}
use Rattle.layout.specs.Words.{part, tab, le16, le32, le64}
use Rattle.layout.proofs.Packing.{get_d_part}

module _ (s : List ℕ) (at : ℕ) where
  first : get_or s (at + 0) 0 ≡ get_or s at 0
  first = rw add-zero

  pub le16_is : (r : ℕ) → r ≡ from_le_bytes w16 (part 2 s at) → r ≡ le16 s at
  unfolding part tab
  le16_is r e = omega (arith, e, first)

  pub le32_is : (r : ℕ) → r ≡ from_le_bytes w32 (part 4 s at) → r ≡ le32 s at
  unfolding part tab
  le32_is r e = omega (arith, e, first)

  later : (k : ℕ) → get_or s (at + 4 + k) 0 ≡ get_or s (at + (4 + k)) 0
  later k = ap (λ (i : ℕ). get_or s i 0) (omega arith)

  pub le64_is : (r : ℕ) → r ≡ from_le_bytes w64 (part 8 s at) → r ≡ le64 s at
  unfolding part tab
  le64_is r e = omega (arith, e, first, later 1, later 2, later 3)

-- a word of a part
pub le32_part : (n : ℕ) (s : List ℕ) (at i : ℕ) → i + 4 ≤ n → le32 (part n s at) i ≡ le32 s (at + i)
le32_part n s at i h =
    let byte : (k : ℕ) → k < 4 → get_or (part n s at) (i + k) 0 ≡ get_or s (at + i + k) 0 =
    λ k l. get_d_part n s at (i + k) (omega arith) ∙ ap (λ j. get_or s j 0) (omega arith) in
    let zeroth : get_or (part n s at) i 0 ≡ get_or s (at + i) 0 = get_d_part n s at i (omega arith) in
    omega (arith, zeroth, byte 1 (omega arith), byte 2 (omega arith), byte 3 (omega arith))
