-- Two ways to combine three words bit by bit are one if they agree on single bits. Assumes nothing.
use Rattle.std.proofs.Common.{◌≡◌, ℕ, zero, suc, ◌*◌, ◌/◌, ◌%◌, ◌^◌, ◌<◌, sym, refl, ap, ◌∙◌, ap₂, pow-suc, arith}
use lib.Bits.{bit_and, bit_xor, and_shr, xor_shr, and_mod, xor_mod}

-- a fact of three bits is eight facts
pub eight : (P : ℕ → ℕ → ℕ → Type 0) → P 0 0 0 → P 0 0 1 → P 0 1 0 → P 0 1 1 → P 1 0 0 → P 1 0 1 → P 1 1 0 → P 1 1 1
    → (a b c : ℕ) → a < 2 → b < 2 → c < 2 → P a b c
eight P p0 p1 p2 p3 p4 p5 p6 p7 (suc (suc a)) b c ha hb hc = let e : ⊥ = omega arith in absurd e
eight P p0 p1 p2 p3 p4 p5 p6 p7 zero (suc (suc b)) c ha hb hc = let e : ⊥ = omega arith in absurd e
eight P p0 p1 p2 p3 p4 p5 p6 p7 zero zero (suc (suc c)) ha hb hc = let e : ⊥ = omega arith in absurd e
eight P p0 p1 p2 p3 p4 p5 p6 p7 zero zero zero ha hb hc = p0
eight P p0 p1 p2 p3 p4 p5 p6 p7 zero zero (suc zero) ha hb hc = p1
eight P p0 p1 p2 p3 p4 p5 p6 p7 zero (suc zero) (suc (suc c)) ha hb hc = let e : ⊥ = omega arith in absurd e
eight P p0 p1 p2 p3 p4 p5 p6 p7 zero (suc zero) zero ha hb hc = p2
eight P p0 p1 p2 p3 p4 p5 p6 p7 zero (suc zero) (suc zero) ha hb hc = p3
eight P p0 p1 p2 p3 p4 p5 p6 p7 (suc zero) (suc (suc b)) c ha hb hc = let e : ⊥ = omega arith in absurd e
eight P p0 p1 p2 p3 p4 p5 p6 p7 (suc zero) zero (suc (suc c)) ha hb hc = let e : ⊥ = omega arith in absurd e
eight P p0 p1 p2 p3 p4 p5 p6 p7 (suc zero) zero zero ha hb hc = p4
eight P p0 p1 p2 p3 p4 p5 p6 p7 (suc zero) zero (suc zero) ha hb hc = p5
eight P p0 p1 p2 p3 p4 p5 p6 p7 (suc zero) (suc zero) (suc (suc c)) ha hb hc = let e : ⊥ = omega arith in absurd e
eight P p0 p1 p2 p3 p4 p5 p6 p7 (suc zero) (suc zero) zero ha hb hc = p6
eight P p0 p1 p2 p3 p4 p5 p6 p7 (suc zero) (suc zero) (suc zero) ha hb hc = p7

-- a number is its half and its last bit
pub digits : (m n : ℕ) → m / 2 ≡ n / 2 → m % 2 ≡ n % 2 → m ≡ n
digits m n p q = omega arith

module _ (f g : ℕ → ℕ → ℕ → ℕ)
    (f-half : (x y z : ℕ) → f x y z / 2 ≡ f (x / 2) (y / 2) (z / 2)) (f-odd : (x y z : ℕ) → f x y z % 2 ≡ f (x % 2) (y % 2) (z % 2))
    (g-half : (x y z : ℕ) → g x y z / 2 ≡ g (x / 2) (y / 2) (z / 2)) (g-odd : (x y z : ℕ) → g x y z % 2 ≡ g (x % 2) (y % 2) (z % 2))
    (bit : (a b c : ℕ) → a < 2 → b < 2 → c < 2 → f a b c ≡ g a b c) where
  same : (k x y z : ℕ) → x < 2 ^ k → y < 2 ^ k → z < 2 ^ k → f x y z ≡ g x y z
  same zero x y z hx hy hz =
      let a : x < 2 = omega arith in
      let b : y < 2 = omega arith in
      let c : z < 2 = omega arith in
      bit x y z a b c
  same (suc k) x y z hx hy hz =
      let p : 2 ^ suc k ≡ 2 ^ k * 2 = pow-suc 2 k in
      digits _ _
      (f-half x y z ∙ same k (x / 2) (y / 2) (z / 2) (omega arith) (omega arith) (omega arith) ∙ sym (g-half x y z))
      (f-odd x y z ∙ bit (x % 2) (y % 2) (z % 2) (omega arith) (omega arith) (omega arith) ∙ sym (g-odd x y z))

-- A part of a number, its half or its last bit, goes through ⊕ and ∧, and so through what is made of them.
module _ (part : ℕ → ℕ) (px : (x y : ℕ) → part (bit_xor x y) ≡ bit_xor (part x) (part y)) (pa : (x y : ℕ) → part (bit_and x y) ≡ bit_and (part x) (part y)) where
  left_part : (x y z : ℕ) → part (bit_xor (bit_xor x y) z) ≡ bit_xor (bit_xor (part x) (part y)) (part z)
  left_part x y z = px (bit_xor x y) z ∙ ap (λ (t : ℕ). bit_xor t (part z)) (px x y)

  right_part : (x y z : ℕ) → part (bit_xor x (bit_xor y z)) ≡ bit_xor (part x) (bit_xor (part y) (part z))
  right_part x y z = px x (bit_xor y z) ∙ ap (bit_xor (part x)) (px y z)

  median_part : (x y z : ℕ) → part (bit_xor (bit_and (bit_xor x y) (bit_xor y z)) y)
      ≡ bit_xor (bit_and (bit_xor (part x) (part y)) (bit_xor (part y) (part z))) (part y)
  median_part x y z =
      px (bit_and (bit_xor x y) (bit_xor y z)) y
      ∙ ap (λ (t : ℕ). bit_xor t (part y)) (pa (bit_xor x y) (bit_xor y z) ∙ ap₂ bit_and (px x y) (px y z))

  majority_part : (x y z : ℕ) → part (bit_xor (bit_xor (bit_and x y) (bit_and x z)) (bit_and y z))
      ≡ bit_xor (bit_xor (bit_and (part x) (part y)) (bit_and (part x) (part z))) (bit_and (part y) (part z))
  majority_part x y z =
      px (bit_xor (bit_and x y) (bit_and x z)) (bit_and y z)
      ∙ ap₂ bit_xor (px (bit_and x y) (bit_and x z) ∙ ap₂ bit_xor (pa x y) (pa x z)) (pa y z)

abbrev half : ℕ → ℕ
half x = x / 2

half_xor : (x y : ℕ) → half (bit_xor x y) ≡ bit_xor (half x) (half y)
half_xor x y = xor_shr x y 1

half_and : (x y : ℕ) → half (bit_and x y) ≡ bit_and (half x) (half y)
half_and x y = and_shr x y 1

abbrev odd : ℕ → ℕ
odd x = x % 2

odd_xor : (x y : ℕ) → odd (bit_xor x y) ≡ bit_xor (odd x) (odd y)
odd_xor x y = xor_mod x y 1

odd_and : (x y : ℕ) → odd (bit_and x y) ≡ bit_and (odd x) (odd y)
odd_and x y = and_mod x y 1

-- (x ⊕ y) ⊕ z is x ⊕ (y ⊕ z)
pub xor_assoc : (x y z : ℕ) → x < 2 ^ 64 → y < 2 ^ 64 → z < 2 ^ 64 → bit_xor (bit_xor x y) z ≡ bit_xor x (bit_xor y z)
xor_assoc =
    same (λ x y z. bit_xor (bit_xor x y) z) (λ x y z. bit_xor x (bit_xor y z)) (left_part half half_xor half_and) (left_part odd odd_xor odd_and)
    (right_part half half_xor half_and) (right_part odd odd_xor odd_and)
    (eight (λ a b c. bit_xor (bit_xor a b) c ≡ bit_xor a (bit_xor b c)) refl refl refl refl refl refl refl refl) 64

-- Maj in four operations, of which two rounds share one: ((x ⊕ y) ∧ (y ⊕ z)) ⊕ y
pub median : (x y z : ℕ) → x < 2 ^ 64 → y < 2 ^ 64 → z < 2 ^ 64
    → bit_xor (bit_and (bit_xor x y) (bit_xor y z)) y ≡ bit_xor (bit_xor (bit_and x y) (bit_and x z)) (bit_and y z)
median =
    same (λ x y z. bit_xor (bit_and (bit_xor x y) (bit_xor y z)) y) (λ x y z. bit_xor (bit_xor (bit_and x y) (bit_and x z)) (bit_and y z))
    (median_part half half_xor half_and) (median_part odd odd_xor odd_and) (majority_part half half_xor half_and) (majority_part odd odd_xor odd_and)
    (eight (λ a b c. bit_xor (bit_and (bit_xor a b) (bit_xor b c)) b ≡ bit_xor (bit_xor (bit_and a b) (bit_and a c)) (bit_and b c))
    refl refl refl refl refl refl refl refl) 64
