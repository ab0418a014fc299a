-- An answer in its buffer: the rest is copied behind eight zero bytes, and the checksum goes to the front. Assumes nothing.
use Prim.Native.Nat.{ℕ, ◌+◌, ◌-◌, ◌≤◌}
use mathlib.Core.Path.{◌≡◌, ap, ◌∙◌}
use mathlib.Core.List.{List, ◌++◌}
use native.Mathlib.Omega.{arith}
use lib.ListN.{length, take, drop, replicate, length-append, length-replicate}
use lib.Seq.{take_at}
use borrow.Rule.Slice.PartMut.{put_mid}
use Rattle.layout.specs.Sizes.{answer_max}
use Rattle.layout.specs.Words.{bytes4, zeros}
use Rattle.layout.proofs.Tab.{drop_zeros}
use Rattle.message.specs.Checksum.{checksum_of}
use Rattle.making.specs.Made.{answer_in}
use Rattle.layout.specs.declared.bytes.Bytes.{Bytes}
use Rattle.opening.specs.Rules.{answer_of}

abbrev zs : ℕ → List ℕ
zs n = replicate n 0

-- `o` is the part that was copied, of k bytes
module _ (rest o : List ℕ) (k : ℕ) (room : length rest + 8 ≤ answer_max) (ek : k ≡ length rest) (eo : o ≡ rest) where
  -- the buffer after the copy
  abbrev space : List ℕ
  space = put_mid 8 k (replicate answer_max 0) o

  copied : space ≡ bytes4 0 ++ (bytes4 0 ++ (rest ++ replicate (answer_max - 8 - length rest) 0))
  copied =
      (λ i. put_mid 8 (ek i) (replicate answer_max 0) (eo i))
      ∙ ap (λ (l : List ℕ). bytes4 0 ++ (bytes4 0 ++ (rest ++ l))) (drop_zeros (length rest) (answer_max - 8) (omega arith))

  pub whole_length : answer_max ≡ length space
  whole_length =
      omega (arith, ap length copied, length-append rest (zs (answer_max - 8 - length rest)), length-replicate {A = ℕ} (answer_max - 8 - length rest) 0)

  -- what the checksum covers
  covered : take (length rest + 8 - 4) (drop 4 space) ≡ bytes4 0 ++ rest
  covered =
      let n : length (bytes4 0 ++ rest) ≡ length rest + 8 - 4 = omega arith in
      ap (λ (l : List ℕ). take (length rest + 8 - 4) (drop 4 l)) copied
      ∙ take_at (bytes4 0 ++ rest) (replicate (answer_max - 8 - length rest) 0) (length rest + 8 - 4) n

  -- with the checksum in front it is the answer
  pub sealed_bytes : (out : List ℕ) → out ≡ bytes4 (checksum_of 0 (take (length rest + 8 - 4) (drop 4 space))) ++ drop 4 space
      → record { bytes = out; len = length rest + 8 } ≡ answer_in (answer_of rest)
  unfolding answer_of zeros
  sealed_bytes out e =
      let gap : answer_max - 8 - length rest ≡ answer_max - length (answer_of rest) = omega arith in
      let long : length rest + 8 ≡ length (answer_of rest) = omega arith in
      (λ i. sealed_with (e i) (length rest + 8))
      ∙ (λ i. sealed_with (bytes4 (checksum_of 0 (covered i)) ++ drop 4 (copied i)) (length rest + 8))
      ∙ (λ i. sealed_with (bytes4 (checksum_of 0 (bytes4 0 ++ rest)) ++ (bytes4 0 ++ (rest ++ replicate (gap i) 0))) (long i))
    where
      sealed_with : List ℕ → ℕ → Bytes answer_max
      sealed_with l n = record { bytes = l; len = n }
