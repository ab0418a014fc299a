-- Sums of bytes, modulo 2^32. Assumes nothing.
use Rattle.std.proofs.Common.{◌≡◌, ℕ, ◌+◌, ◌-◌, ◌%◌, ◌^◌, ◌<◌, List, [], ◌∷◌, ◌++◌, length, get_or, take, ◌∙◌, refl, add-one, arith, take-suc}
use Rattle.std.specs.List.{fold}
use Rattle.message.specs.Checksum.{sum_of}

pub sum_append : (a b : List ℕ) → sum_of (a ++ b) ≡ sum_of a + sum_of b
sum_append [] b = omega arith
sum_append (x ∷ a) b = omega (arith, sum_append a b)

-- one byte more
pub sum_more : (s : List ℕ) (i r b t : ℕ) → i < length s → r ≡ sum_of (take i s) % 2 ^ 32 → b ≡ get_or s i 0 → t ≡ (r + b) % 2 ^ 32
    → t ≡ sum_of (take (i + 1) s) % 2 ^ 32
sum_more s i r b t h p q e =
    let f : sum_of (take (i + 1) s) ≡ sum_of (take i s) + get_or s i 0 =
    rw (add-one, take-suc s i 0) (sum_append (take i s) (get_or s i 0 ∷ []) ∙ omega arith) in
    omega (arith, f)

-- zero minus a sum
pub negated : (c s t u r : ℕ) → t ≡ s % 2 ^ 32 → u ≡ (c + t) % 2 ^ 32 → (r + u) % 2 ^ 32 ≡ 0 → r < 2 ^ 32 → r ≡ (2 ^ 32 - (c + s) % 2 ^ 32) % 2 ^ 32
negated c s t u r p q e h = omega arith

-- a sum that is cut to 32 bits at each byte, from t on
sum_from : (s : List ℕ) (r t : ℕ) → t ≡ r % 2 ^ 32 → fold (λ (a b : ℕ). (a + b) % 2 ^ 32) t s ≡ (r + sum_of s) % 2 ^ 32
sum_from [] r t e = omega (arith, e)
sum_from (b ∷ s) r t e =
    let more : fold (λ (a b : ℕ). (a + b) % 2 ^ 32) ((t + b) % 2 ^ 32) s ≡ (r + b + sum_of s) % 2 ^ 32 = sum_from s (r + b) _ (omega (arith, e)) in
    more ∙ omega arith

pub sum_folded : (s : List ℕ) → fold (λ (a b : ℕ). (a + b) % 2 ^ 32) 0 s ≡ sum_of s % 2 ^ 32
sum_folded s =
    let f : fold (λ (a b : ℕ). (a + b) % 2 ^ 32) 0 s ≡ (0 + sum_of s) % 2 ^ 32 = sum_from s 0 0 refl in
    f ∙ omega arith
