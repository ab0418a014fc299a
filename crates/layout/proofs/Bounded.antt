-- Every, count and first below a bound, for any bound: how a loop finds them, and what they say. Assumes nothing.
use Prim.Native.Nat.{ℕ, zero, suc, ◌+◌, ◌-◌, ◌<◌, ◌≤◌}
use mathlib.Core.Path.{◌≡◌, refl, sym, ap, ◌∙◌}
use mathlib.Core.Logic.{◌≢◌}
use mathlib.Core.Bool.{Bool, true, false, cond, ◌&&◌, true≢false}
use native.Mathlib.Omega.{arith}
use native.Mathlib.Numerals.{add-one}
use native.Mathlib.Decide.{dec_lt, ℕ_discrete}
use Rattle.layout.proofs.Cases.{and_left, and_right}
use Rattle.layout.specs.Below.{all_below, count_below, first_from}

pub and-false : (t : Bool) → (t && false) ≡ false
and-false true = refl
and-false false = refl

module _ (p : ℕ → Bool) where
  pub all_none : all_below 0 p ≡ true
  unfolding all_below
  all_none = refl

  pub all_more : (i : ℕ) → all_below i p ≡ true → p i ≡ true → all_below (i + 1) p ≡ true
  unfolding all_below
  all_more i h q = rw (add-one, all_below, h) q

  pub all_fails : (i n : ℕ) → p i ≡ false → i < n → all_below n p ≡ false
  unfolding all_below
  all_fails i zero q h = absurd (omega arith)
  all_fails i (suc n) q h = elim (dec_lt i n) [ yes l ↦ rw (all_fails i n q l) | no g ↦ (let e : n ≡ i = omega arith in rw (e, q) (and-false (all_below i p))) ]

  pub count_none : 0 ≡ count_below 0 p
  unfolding count_below
  count_none = refl

  -- a search that has passed the numbers below i: it goes on, ends at i, or has found none
  first_step : (k j i : ℕ) → k ≡ j + 1 → first_from p k i ≡ cond (p i) i (first_from p j (i + 1))
  unfolding first_from
  first_step zero j i h = absurd (omega arith)
  first_step (suc k) j i h = let e : k ≡ j = omega arith in rw e

  pub first_on : (n i : ℕ) → i < n → p i ≡ false → first_from p (n - i) i ≡ first_from p (n - (i + 1)) (i + 1)
  first_on n i h q = first_step (n - i) (n - (i + 1)) i (omega arith) ∙ rw q

  pub first_here : (n i : ℕ) → i < n → p i ≡ true → first_from p (n - i) i ≡ i
  first_here n i h q = first_step (n - i) (n - (i + 1)) i (omega arith) ∙ rw q

  pub first_none : (n i : ℕ) → n ≤ i → first_from p (n - i) i ≡ i
  unfolding first_from
  first_none n i h = let e : n - i ≡ 0 = omega arith in rw e

  -- the other way: what a search that found nothing, and one that found i, say
  pub all_at : (n i : ℕ) → all_below n p ≡ true → i < n → p i ≡ true
  unfolding all_below
  all_at zero i h l = absurd (omega arith)
  all_at (suc n) i h l =
      elim (dec_lt i n)
      [ yes g ↦ all_at n i (and_left (all_below n p) (p n) h) g | no g ↦ (let e : i ≡ n = omega arith in rw e (and_right (all_below n p) (p n) h)) ]

  pub count_yes : (i c d : ℕ) → c ≡ count_below i p → p i ≡ true → d ≡ c + 1 → d ≡ count_below (i + 1) p
  unfolding count_below
  count_yes i c d h q e = rw (add-one, count_below, q) (omega arith)

  pub count_no : (i c d : ℕ) → c ≡ count_below i p → p i ≡ false → d ≡ c → d ≡ count_below (i + 1) p
  unfolding count_below
  count_no i c d h q e = rw (add-one, count_below, q) (omega arith)

  -- where a search ends: at most at its bound, before it where the property holds, and never beyond such a number
  pub first_le : (k i : ℕ) → first_from p k i ≤ i + k
  unfolding first_from
  first_le zero i = omega arith
  first_le (suc k) i = by_test (p i) (first_le k (i + 1))
    where
      by_test : (t : Bool) → first_from p k (i + 1) ≤ i + 1 + k → cond t i (first_from p k (i + 1)) ≤ i + suc k
      by_test true h = omega arith
      by_test false h = omega arith

  pub first_there : (k i : ℕ) → first_from p k i < i + k → p (first_from p k i) ≡ true
  unfolding first_from
  first_there zero i h = absurd (omega arith)
  first_there (suc k) i h = by_test (p i) refl (first_there k (i + 1)) h
    where
      by_test : (t : Bool) → p i ≡ t → (first_from p k (i + 1) < i + 1 + k → p (first_from p k (i + 1)) ≡ true)
          → cond t i (first_from p k (i + 1)) < i + suc k → p (cond t i (first_from p k (i + 1))) ≡ true
      by_test true e on l = e
      by_test false e on l = on (omega arith)

  pub first_lowest : (k i j : ℕ) → i ≤ j → j < first_from p k i → p j ≡ false
  unfolding first_from
  first_lowest zero i j h l = absurd (omega arith)
  first_lowest (suc k) i j h l = by_test (p i) refl (first_lowest k (i + 1) j) l
    where
      by_test : (t : Bool) → p i ≡ t → (i + 1 ≤ j → j < first_from p k (i + 1) → p j ≡ false) → j < cond t i (first_from p k (i + 1)) → p j ≡ false
      by_test true e on g = absurd (omega arith)
      by_test false e on g = elim (dec_lt i j) [ yes b ↦ on (omega arith) g | no b ↦ (let q : j ≡ i = omega arith in rw q e) ]

  pub none_counted : (n : ℕ) → ((i : ℕ) → i < n → p i ≡ false) → count_below n p ≡ 0
  unfolding count_below
  none_counted zero h = refl
  none_counted (suc n) h = rw (h n (omega arith), none_counted n (λ i l. h i (omega arith)))

  -- where some number has the property, the search finds one
  pub counted_found : (n : ℕ) → 0 < count_below n p → first_from p n 0 < n
  counted_found n h = elim (dec_lt (first_from p n 0) n) [
    | yes g ↦ g
    | no g ↦ absurd (omega (arith, none_counted n (λ i l. first_lowest n 0 i (omega arith) (omega arith))))
  ]

  -- each number with the property counts
  one_more : (n : ℕ) → p n ≡ true → count_below (suc n) p ≡ count_below n p + 1
  unfolding count_below
  one_more n q = rw q

  last_counts : (n : ℕ) → count_below n p ≤ count_below (suc n) p
  unfolding count_below
  last_counts n = omega arith

  pub has_counted : (n i : ℕ) → i < n → p i ≡ true → 0 < count_below n p
  has_counted zero i l q = absurd (omega arith)
  has_counted (suc n) i l q = elim (dec_lt i n) [
    | yes g ↦ omega (arith, has_counted n i g q, last_counts n)
    | no g ↦ (let e : i ≡ n = omega arith in omega (arith, one_more n (rw e at q)))
  ]

  counted_two : (n i j : ℕ) → i < j → j < n → p i ≡ true → p j ≡ true → 1 < count_below n p
  counted_two zero i j a b q r = absurd (omega arith)
  counted_two (suc n) i j a b q r = elim (dec_lt j n) [
    | yes g ↦ omega (arith, counted_two n i j a g q r, last_counts n)
    | no g ↦ (let e : j ≡ n = omega arith in omega (arith, one_more n (rw e at r), has_counted n i (omega arith) q))
  ]

  -- where just one number has the property, it is the one found
  pub found_only : (n i : ℕ) → count_below n p ≡ 1 → i < n → p i ≡ true → i ≡ first_from p n 0
  found_only n i h l q =
      let f = first_from p n 0 in
      let b : f < n = counted_found n (omega arith) in
      let t : p f ≡ true = first_there n 0 (omega arith) in
      elim (dec_lt i f) [
        | yes g ↦ absurd (omega (arith, counted_two n i f g b q t))
        | no g ↦ elim (dec_lt f i) [ yes k ↦ absurd (omega (arith, counted_two n f i k l t q)) | no k ↦ omega arith ]
      ]

-- ---- two properties

-- that agree below a bound
pub all_same : (p q : ℕ → Bool) (n : ℕ) → ((i : ℕ) → i < n → p i ≡ q i) → all_below n p ≡ all_below n q
unfolding all_below
all_same p q zero h = refl
all_same p q (suc n) h = rw (all_same p q n (λ i l. h i (omega arith)), h n (omega arith))

pub all_below_law : (p : ℕ → Bool) (n : ℕ) → ((i : ℕ) → i < n → p i ≡ true) → all_below n p ≡ true
unfolding all_below
all_below_law p zero h = refl
all_below_law p (suc n) h = rw (all_below_law p n (λ i l. h i (omega arith)), h n (omega arith))

-- ---- how many numbers below a bound have a property

pub count_most : (p : ℕ → Bool) (n : ℕ) → count_below n p ≤ n
unfolding count_below
count_most p zero = omega arith
count_most p (suc n) = go (p n) (count_most p n)
  where
    go : (b : Bool) → count_below n p ≤ n → count_below n p + cond b 1 0 ≤ suc n
    go true h = omega arith
    go false h = omega arith

-- one step of the two laws that follow: q has what p has
step_counts : (c d : ℕ) (a b : Bool) → (a ≡ true → b ≡ true) → c ≤ d → c + cond a 1 0 ≤ d + cond b 1 0
step_counts c d true true f l = omega arith
step_counts c d true false f l = absurd (true≢false (sym (f refl)))
step_counts c d false true f l = omega arith
step_counts c d false false f l = omega arith

-- q has all that p has, and so as many at least
pub count_part : (p q : ℕ → Bool) (n : ℕ) → ((i : ℕ) → p i ≡ true → q i ≡ true) → count_below n p ≤ count_below n q
unfolding count_below
count_part p q zero h = omega arith
count_part p q (suc n) h = step_counts (count_below n p) (count_below n q) (p n) (q n) (h n) (count_part p q n h)

-- and one more
pub count_less : (p q : ℕ → Bool) (n k : ℕ) → k < n → ((i : ℕ) → p i ≡ true → q i ≡ true) → p k ≡ false → q k ≡ true → count_below n p < count_below n q
unfolding count_below
count_less p q zero k l h e f = absurd (omega arith)
count_less p q (suc n) k l h e f = elim (ℕ_discrete k n) [
  | yes z ↦ rw (ap p (sym z) ∙ e, ap q (sym z) ∙ f) (omega (arith, count_part p q n h))
  | no z ↦ omega (arith, step_counts (suc (count_below n p)) (count_below n q) (p n) (q n) (h n) (count_less p q n k (omega arith) h e f))
]

-- just one
pub count_only : (q : ℕ → Bool) (n k : ℕ) → k < n → q k ≡ true → ((i : ℕ) → i < n → i ≢ k → q i ≡ false) → count_below n q ≡ 1
unfolding count_below
count_only q zero k l e h = absurd (omega arith)
count_only q (suc n) k l e h = elim (ℕ_discrete k n) [
  | yes z ↦ rw (ap q (sym z) ∙ e, none_counted q n (λ i b. h i (omega arith) (λ (w : i ≡ k). omega arith)))
  | no z ↦ rw (h n (omega arith) (λ (w : n ≡ k). z (sym w)), count_only q n k (omega arith) e (λ i b. h i (omega arith)))
]

-- all of them, or fewer
pub count_all_law : (p : ℕ → Bool) (n : ℕ) → ((i : ℕ) → i < n → p i ≡ true) → count_below n p ≡ n
unfolding count_below
count_all_law p zero h = refl
count_all_law p (suc n) h = rw (h n (omega arith), count_all_law p n (λ i l. h i (omega arith))) (omega arith)

pub count_not_all : (p : ℕ → Bool) (n i : ℕ) → i < n → p i ≡ false → count_below n p < n
count_not_all p n i l e = omega (arith, count_less p (λ j. true) n i l (λ j h. refl) e refl, count_all_law (λ j. true) n (λ j b. refl))

-- the numbers below k, of those below n
pub count_first : (p : ℕ → Bool) (n k : ℕ) → k ≤ n → ((i : ℕ) → i < k → p i ≡ true) → ((i : ℕ) → k ≤ i → i < n → p i ≡ false)
    → count_below n p ≡ k
unfolding count_below
count_first p zero k l low high = omega arith
count_first p (suc n) k l low high = elim (dec_lt n k) [
  | yes b ↦ rw (low n b, count_all_law p n (λ i c. low i (omega arith))) (omega arith)
  | no b ↦ rw (high n (omega arith) (omega arith), count_first p n k (omega arith) low (λ i b c. high i b (omega arith))) (omega arith)
]
