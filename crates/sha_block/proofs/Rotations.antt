-- A rotation of a rotation, and of a sum without carries. Assumes nothing.
use Rattle.std.proofs.Common.{◌≡◌, ℕ, ◌+◌, ◌*◌, ◌/◌, ◌%◌, ◌^◌, ◌<◌, sym, ap, ◌∙◌, ap₂, mod-lt, mul_assoc, add-mul, arith, pow_pos, pow-add, shr-shr, shr_lt}
use lib.Arith.{digits_lt}
use lib.Pow.{shl-shr, low, high, split, mod-pow-add}
use lib.Bits.{bit_or, bit_xor, or_shifted_r, xor_block, xor_shr, xor_mod, xor_lt}
use Rattle.sha_block.specs.Words.{rotr, shr}
use Rattle.sha_block.proofs.Bitwise.{xor_assoc}

-- x turned right by n places of n + k, as a sum
abbrev turned : ℕ → ℕ → ℕ → ℕ
turned n k x = x % 2 ^ n * 2 ^ k + x / 2 ^ n

cut : (n k x : ℕ) → x * 2 ^ k % 2 ^ (n + k) ≡ x % 2 ^ n * 2 ^ k
cut n k x =
    let none : x * 2 ^ k % 2 ^ k ≡ 0 = ap (λ (y : ℕ). y % 2 ^ k) (omega arith) ∙ low x k {lo = 0} (pow_pos k) in
    mod-pow-add (x * 2 ^ k) n k ∙ ap₂ (λ (a b : ℕ). a % 2 ^ n * 2 ^ k + b) (shl-shr x k) none ∙ omega arith

value : (n k x : ℕ) → x < 2 ^ (k + n) → bit_or (x / 2 ^ n) (x * 2 ^ k % 2 ^ (n + k)) ≡ turned n k x
value n k x h = ap (bit_or (x / 2 ^ n)) (cut n k x) ∙ or_shifted_r (x % 2 ^ n) k (x / 2 ^ n) (shr_lt k n h)

xor_turned : (n k a b : ℕ) → a < 2 ^ (k + n) → b < 2 ^ (k + n) → turned n k (bit_xor a b) ≡ bit_xor (turned n k a) (turned n k b)
xor_turned n k a b ha hb =
    ap₂ (λ (x y : ℕ). x * 2 ^ k + y) (xor_mod a b n) (xor_shr a b n)
    ∙ sym (xor_block k (a % 2 ^ n) (b % 2 ^ n) (a / 2 ^ n) (b / 2 ^ n) (shr_lt k n ha) (shr_lt k n hb))

-- turning twice is turning once, by the sum
turned_turned : (m n k x : ℕ) → turned n (m + k) (turned m (k + n) x) ≡ turned (n + m) k x
turned_turned m n k x =
    let a = x % 2 ^ m in
    let y = x / 2 ^ m in
    let b = y % 2 ^ n in
    let c = y / 2 ^ n in
    let e1 : a * 2 ^ (k + n) ≡ a * 2 ^ k * 2 ^ n = ap (λ (t : ℕ). a * t) (pow-add 2 k n) ∙ sym (mul_assoc a (2 ^ k) (2 ^ n)) in
    let e2 : (a * 2 ^ k + c) * 2 ^ n ≡ a * 2 ^ k * 2 ^ n + c * 2 ^ n = add-mul (a * 2 ^ k) c (2 ^ n) in
    let e3 : c * 2 ^ n + b ≡ y = split y n in
    let whole : turned m (k + n) x ≡ (a * 2 ^ k + c) * 2 ^ n + b = omega (arith, e1, e2, e3) in
    let lt : b < 2 ^ n = mod-lt y (pow_pos n) in
    let f1 : b * 2 ^ (m + k) ≡ b * 2 ^ m * 2 ^ k = ap (λ (t : ℕ). b * t) (pow-add 2 m k) ∙ sym (mul_assoc b (2 ^ m) (2 ^ k)) in
    let f2 : (b * 2 ^ m + a) * 2 ^ k ≡ b * 2 ^ m * 2 ^ k + a * 2 ^ k = add-mul (b * 2 ^ m) a (2 ^ k) in
    let sum : b * 2 ^ (m + k) + (a * 2 ^ k + c) ≡ (b * 2 ^ m + a) * 2 ^ k + c = omega (arith, f1, f2) in
    ap (turned n (m + k)) whole
    ∙ ap₂ (λ (l h : ℕ). l * 2 ^ (m + k) + h) (low (a * 2 ^ k + c) n lt) (high (a * 2 ^ k + c) n lt)
    ∙ sum
    ∙ ap₂ (λ (l h : ℕ). l * 2 ^ k + h) (sym (mod-pow-add x n m)) (shr-shr x m n ∙ ap (λ (t : ℕ). x / 2 ^ t) (omega arith))

turned_lt : (n k x : ℕ) → x < 2 ^ (k + n) → turned n k x < 2 ^ (n + k)
turned_lt n k x h = let e = pow-add 2 n k in rw e (digits_lt (mod-lt x (pow_pos n)) (shr_lt k n h))

-- x turned right by n places of n + k; at literals of sum 64 it is `rotr n x`
abbrev rot : ℕ → ℕ → ℕ → ℕ
rot n k x = bit_or (x / 2 ^ n) (x * 2 ^ k % 2 ^ (n + k))

rot_lt : (n k x : ℕ) → x < 2 ^ (k + n) → rot n k x < 2 ^ (n + k)
rot_lt n k x h = let e = value n k x h in rw e (turned_lt n k x h)

rot_xor : (n k a b : ℕ) → a < 2 ^ (k + n) → b < 2 ^ (k + n) → rot n k (bit_xor a b) ≡ bit_xor (rot n k a) (rot n k b)
rot_xor n k a b ha hb =
    value n k (bit_xor a b) (xor_lt (k + n) a b ha hb) ∙ xor_turned n k a b ha hb ∙ sym (ap₂ bit_xor (value n k a ha) (value n k b hb))

rot_rot : (m n k x : ℕ) → x < 2 ^ ((k + n) + m) → turned m (k + n) x < 2 ^ ((m + k) + n) → x < 2 ^ (k + (n + m))
    → rot n (m + k) (rot m (k + n) x) ≡ rot (n + m) k x
rot_rot m n k x h low h' =
    ap (rot n (m + k)) (value m (k + n) x h) ∙ value n (m + k) (turned m (k + n) x) low ∙ turned_turned m n k x ∙ sym (value (n + m) k x h')

-- Two words, one turned further than the other, added to x: all three turned at once. `r1` turns by l,
-- `r2` by m, `r3` by n, `r21` by l + m, `r32` by m + n, `r321` by l + m + n.
module _ (r1 r2 r3 r21 r32 r321 : ℕ → ℕ)
    (lt1 : (x : ℕ) → x < 2 ^ 64 → r1 x < 2 ^ 64) (lt2 : (x : ℕ) → x < 2 ^ 64 → r2 x < 2 ^ 64) (lt3 : (x : ℕ) → x < 2 ^ 64 → r3 x < 2 ^ 64)
    (xor2 : (a b : ℕ) → a < 2 ^ 64 → b < 2 ^ 64 → r2 (bit_xor a b) ≡ bit_xor (r2 a) (r2 b))
    (xor3 : (a b : ℕ) → a < 2 ^ 64 → b < 2 ^ 64 → r3 (bit_xor a b) ≡ bit_xor (r3 a) (r3 b))
    (c21 : (x : ℕ) → x < 2 ^ 64 → r2 (r1 x) ≡ r21 x) (c32 : (x : ℕ) → x < 2 ^ 64 → r3 (r2 x) ≡ r32 x) (c321 : (x : ℕ) → x < 2 ^ 64 → r3 (r21 x) ≡ r321 x) where
  nested : (x : ℕ) → x < 2 ^ 64 → r3 (bit_xor x (r2 (bit_xor x (r1 x)))) ≡ bit_xor (bit_xor (r3 x) (r32 x)) (r321 x)
  nested x h =
      let h1 = lt1 x h in
      let h2 = lt2 x h in
      let h21 = lt2 (r1 x) h1 in
      let e32 = c32 x h in
      let e321 = ap r3 (c21 x h) ∙ c321 x h in
      let h32 : r32 x < 2 ^ 64 = rw e32 at (lt3 (r2 x) h2) in
      let h321 : r321 x < 2 ^ 64 = rw e321 at (lt3 (r2 (r1 x)) h21) in
      xor3 x (r2 (bit_xor x (r1 x))) h (lt2 (bit_xor x (r1 x)) (xor_lt 64 x (r1 x) h h1))
      ∙ ap (bit_xor (r3 x))
      (ap r3 (xor2 x (r1 x) h h1) ∙ xor3 (r2 x) (r2 (r1 x)) h2 h21 ∙ ap₂ bit_xor e32 e321)
      ∙ sym (xor_assoc (r3 x) (r32 x) (r321 x) (lt3 x h) h32 h321)

-- Σ0 and Σ1, each as three rotations one in the other
pub nested0 : (x : ℕ) → x < 2 ^ 64 → rotr 28 (bit_xor x (rotr 6 (bit_xor x (rotr 5 x)))) ≡ bit_xor (bit_xor (rotr 28 x) (rotr 34 x)) (rotr 39 x)
nested0 =
    nested (rotr 5) (rotr 6) (rotr 28) (rotr 11) (rotr 34) (rotr 39) (rot_lt 5 59) (rot_lt 6 58) (rot_lt 28 36) (rot_xor 6 58) (rot_xor 28 36)
    (λ x h. rot_rot 5 6 53 x h (turned_lt 5 59 x h) h) (λ x h. rot_rot 6 28 30 x h (turned_lt 6 58 x h) h) (λ x h. rot_rot 11 28 25 x h (turned_lt 11 53 x h) h)

pub nested1 : (x : ℕ) → x < 2 ^ 64 → rotr 14 (bit_xor x (rotr 4 (bit_xor x (rotr 23 x)))) ≡ bit_xor (bit_xor (rotr 14 x) (rotr 18 x)) (rotr 41 x)
nested1 =
    nested (rotr 23) (rotr 4) (rotr 14) (rotr 27) (rotr 18) (rotr 41) (rot_lt 23 41) (rot_lt 4 60) (rot_lt 14 50) (rot_xor 4 60) (rot_xor 14 50)
    (λ x h. rot_rot 23 4 37 x h (turned_lt 23 41 x h) h) (λ x h. rot_rot 4 14 46 x h (turned_lt 4 60 x h) h)
    (λ x h. rot_rot 27 14 23 x h (turned_lt 27 37 x h) h)

-- Two rotations of σ0 and of σ1 as one of a sum: turned by n, and by n + m
paired : (m n k x : ℕ) → x < 2 ^ ((k + n) + m) → turned m (k + n) x < 2 ^ ((m + k) + n) → x < 2 ^ (k + (n + m)) → x < 2 ^ ((m + k) + n)
    → rot m (k + n) x < 2 ^ ((m + k) + n)
    → rot n (m + k) (bit_xor x (rot m (k + n) x)) ≡ bit_xor (rot n (m + k) x) (rot (n + m) k x)
paired m n k x h low h' h'' l = rot_xor n (m + k) x (rot m (k + n) x) h'' l ∙ ap (bit_xor (rot n (m + k) x)) (rot_rot m n k x h low h')

pub paired0 : (x : ℕ) → x < 2 ^ 64 → bit_xor (rotr 1 (bit_xor x (rotr 7 x))) (shr 7 x) ≡ bit_xor (bit_xor (rotr 1 x) (rotr 8 x)) (shr 7 x)
paired0 x h = ap (λ (y : ℕ). bit_xor y (shr 7 x)) (paired 7 1 56 x h (turned_lt 7 57 x h) h h (rot_lt 7 57 x h))

pub paired1 : (x : ℕ) → x < 2 ^ 64 → bit_xor (rotr 19 (bit_xor x (rotr 42 x))) (shr 6 x) ≡ bit_xor (bit_xor (rotr 19 x) (rotr 61 x)) (shr 6 x)
paired1 x h = ap (λ (y : ℕ). bit_xor y (shr 6 x)) (paired 42 19 3 x h (turned_lt 42 22 x h) h h (rot_lt 42 22 x h))
