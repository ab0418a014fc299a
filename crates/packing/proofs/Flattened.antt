-- The bytes of words, four and four, one after another. Assumes nothing.
use Rattle.std.proofs.Common.{◌≡◌, ◌-◌, ◌*◌, ◌/◌, ◌%◌, ◌<◌, ◌∙◌, ℕ, zero, suc, List, [], ◌∷◌, length, get_or, sym, ap, ap₂, refl, arith, length-append, flat_map}
use native.Mathlib.Decide.{dec_lt}
use lib.ListN.{get_or-append}
use lib.Seq.{get_or-append_right}
use Rattle.layout.specs.Words.{byte_of, bytes4, bytes_in}
use Rattle.layout.proofs.Tab.{tab_is}

digit : (w j : ℕ) → j < 4 → get_or (bytes4 w) j 0 ≡ byte_of w j
digit w zero h = refl
digit w (suc zero) h = refl
digit w (suc (suc zero)) h = refl
digit w (suc (suc (suc zero))) h = refl
digit w (suc (suc (suc (suc j)))) h = absurd (omega (arith, h))

abbrev Fours : List (List ℕ) → (ℕ → ℕ) → Type 0
Fours ys w = (i : ℕ) → i < length ys → get_or ys i [] ≡ bytes4 (w i)

first_four : (y : List ℕ) (ys : List (List ℕ)) (w : ℕ → ℕ) → Fours (y ∷ ys) w → y ≡ bytes4 (w 0)
first_four y ys w e = e 0 (omega arith)

later_fours : (y : List ℕ) (ys : List (List ℕ)) (w : ℕ → ℕ) → Fours (y ∷ ys) w → Fours ys (λ i. w (suc i))
later_fours y ys w e i h = e (suc i) (omega (arith, h))

long : (ys : List (List ℕ)) (w : ℕ → ℕ) → Fours ys w → length (flat_map (λ x. x) ys) ≡ length ys * 4
long [] w e = refl
long (y ∷ ys) w e =
    let four : length y ≡ 4 = ap length (first_four y ys w e) in
    length-append y (flat_map (λ x. x) ys) ∙ omega (arith, four, long ys (λ i. w (suc i)) (later_fours y ys w e))

byte : (ys : List (List ℕ)) (w : ℕ → ℕ) → Fours ys w → (k : ℕ) → k < length ys * 4 → get_or (flat_map (λ x. x) ys) k 0 ≡ byte_of (w (k / 4)) (k % 4)
byte [] w e k h = absurd (omega (arith, h))
byte (y ∷ ys) w e k h =
    let first = first_four y ys w e in
    let four : length y ≡ 4 = ap length first in
    let back : List ℕ = flat_map (λ x. x) ys in
    elim (dec_lt k 4) [
      | yes l ↦ (
          let low : k ≡ k % 4 = omega (arith, l) in
          let none : 0 ≡ k / 4 = omega (arith, l) in
          get_or-append y back 0 k (omega (arith, l, four)) ∙ ap (λ x. get_or x k 0) first ∙ digit (w 0) k l ∙ ap₂ (λ i j. byte_of (w i) j) none low
          )
      | no l ↦ (
          let less : k - length y ≡ k - 4 = omega (arith, four) in
          let place : suc ((k - 4) / 4) ≡ k / 4 = omega (arith, l) in
          let rest : (k - 4) % 4 ≡ k % 4 = omega (arith, l) in
          get_or-append_right y back k 0 (omega (arith, l, four)) ∙ ap (λ j. get_or back j 0) less
          ∙ byte ys (λ i. w (suc i)) (later_fours y ys w e) (k - 4) (omega (arith, h, l)) ∙ ap₂ (λ i j. byte_of (w i) j) place rest
          )
    ]

-- all of them
pub flattened : (n : ℕ) (ys : List (List ℕ)) (ws : List ℕ) → length ys ≡ n → ((i : ℕ) → i < n → get_or ys i [] ≡ bytes4 (get_or ws i 0)) → flat_map (λ x. x) ys ≡ bytes_in (4 * n) ws
unfolding bytes_in
flattened n ys ws l e =
    let each : Fours ys (λ i. get_or ws i 0) = λ i h. e i (omega (arith, h, l)) in
    sym (tab_is (λ k. byte_of (get_or ws (k / 4) 0) (k % 4)) (flat_map (λ x. x) ys) (4 * n)
    (long ys (λ i. get_or ws i 0) each ∙ omega (arith, l))
    (λ k h. sym (byte ys (λ i. get_or ws i 0) each k (omega (arith, h, l)))))
