-- Numbers in groups of seven bits: what is written is read back, and what is read is what is written. Assumes nothing.
use Prim.Native.Nat.{ℕ, zero, suc, ◌+◌, ◌-◌, ◌*◌, ◌/◌, ◌%◌, ◌^◌, ◌≤◌, ◌<◌}
use mathlib.Core.Path.{◌≡◌, refl, ap, ◌∙◌}
use mathlib.Core.Bool.{true, false, cond, ◌&&◌}
use mathlib.Core.List.{List, [], ◌∷◌, ◌++◌}
use native.Mathlib.Nat.{pow-suc}
use native.Mathlib.Omega.{arith}
use native.Mathlib.Decide.{dec_lt}
use borrow.Author.Tests.{lt-ltb, le-ltb, le-leb, leb-true, ltb-true, ltb-false}
use Rattle.layout.proofs.Cases.{and_left, and_right}
use Rattle.journal.specs.Read.{got, map_read}
use Rattle.journal.specs.Numbers.{groups, number_bytes, under, is_last, is_needed, is_top, wrong_byte, read_later, read_number}
use Rattle.journal.specs.Statements.{Bytes}
use Rattle.journal.proofs.Says.{Says, says_map, by_test}

-- ---- what the tests of a byte give

is_last_law : (b : ℕ) → b < 128 → is_last b ≡ true
is_last_law b h = lt-ltb b _ (omega arith)

is_not_last : (b : ℕ) → 128 ≤ b → is_last b ≡ false
is_not_last b h = le-ltb b _ (omega arith)

is_needed_law : (b : ℕ) → 1 ≤ b → is_needed b ≡ true
is_needed_law b h = le-leb _ b (omega arith)

is_top_law : (b : ℕ) → b < 16 → is_top b ≡ true
is_top_law b h = lt-ltb b _ (omega arith)

-- ---- what is written is read back

-- what n + 1 groups hold after a first one
abbrev pub LaterOk : ℕ → ℕ → Type 0
LaterOk n v = (1 ≤ v) × (v < 16 * 128 ^ n)

read_groups : (n x : ℕ) (l : List ℕ) → LaterOk n x → read_later n (groups n x ++ l) ≡ got x l
unfolding read_later groups
read_groups zero x l h = rw (is_needed_law x h.0, is_top_law x h.1)
read_groups (suc n) x l h = elim (dec_lt x 128) [
  | yes g ↦ rw (lt-ltb x 128 g, is_needed_law x h.0, is_last_law x g)
  | no g ↦
      (let k : x < 16 * (128 ^ n * 128) = rw pow-suc at h.1 in
      let b = 128 + x % 128 in
      let e : under (b - 128) (x / 128) ≡ x = omega arith in
      rw (le-ltb x 128 (omega arith), is_needed_law b (omega arith), is_not_last b (omega arith), read_groups n (x / 128) l (omega arith, omega arith), e))
]

pub read_number_law : (x : ℕ) (l : List ℕ) → x < 2 ^ 32 → read_number (number_bytes x ++ l) ≡ got x l
unfolding read_number groups
read_number_law x l k = elim (dec_lt x 128) [
  | yes g ↦ rw (lt-ltb x 128 g, is_last_law x g)
  | no g ↦
      (let b = 128 + x % 128 in
      let e : under (b - 128) (x / 128) ≡ x = omega arith in
      rw (le-ltb x 128 (omega arith), is_not_last b (omega arith), read_groups 3 (x / 128) l (omega arith, omega arith), e))
]

-- ---- what is read is what is written

some_power : (n : ℕ) → 1 ≤ 128 ^ n
some_power zero = omega arith
some_power (suc n) = rw pow-suc (omega (arith, some_power n))

-- a byte with the top bit set before the groups of v
pub groups_under : (n b v : ℕ) → 128 ≤ b → b < 256 → 1 ≤ v → groups (suc n) (under (b - 128) v) ≡ b ∷ groups n v
unfolding groups
groups_under n b v h k p =
    let x = under (b - 128) v in
    let e : 128 + x % 128 ≡ b = omega arith in
    let q : x / 128 ≡ v = omega arith in
    rw (le-ltb x 128 (omega arith), e, q)

pub later_one : (n : ℕ) → LaterOk n 1
later_one n = (omega arith, omega (arith, some_power n))

pub later_under : (n b v : ℕ) → 128 ≤ b → b < 256 → LaterOk n v → LaterOk (suc n) (under (b - 128) v)
later_under n b v h k p = (omega (arith, p.0), rw pow-suc (omega (arith, p.1)))

abbrev Later : ℕ → List ℕ → ℕ → List ℕ → Type 0
Later n l v rest = (groups n v ++ rest ≡ l) × LaterOk n v

later_says : (n : ℕ) (l : List ℕ) → Bytes l → Says (Later n l) (read_later n l)
unfolding read_later groups
later_says n [] s = tt
later_says zero (b ∷ l) s =
    by_test (λ t. Says (Later zero (b ∷ l)) (cond t (got b l) wrong_byte)) (is_needed b && is_top b)
    (λ e. (refl, (omega (arith, leb-true _ b (and_left (is_needed b) (is_top b) e)), omega (arith, ltb-true b _ (and_right (is_needed b) (is_top b) e)))))
    (λ e. tt)
later_says (suc n) (b ∷ l) s =
    by_test (λ t. Says (Later (suc n) (b ∷ l)) (cond t (cond (is_last b) (got b l) (map_read (under (b - 128)) (read_later n l))) wrong_byte)) (is_needed b)
    (λ e. by_test (λ t. Says (Later (suc n) (b ∷ l)) (cond t (got b l) (map_read (under (b - 128)) (read_later n l)))) (is_last b)
    (λ f. (ends f, (omega (arith, leb-true _ b e), small n (omega (arith, ltb-true b _ f)))))
    (λ f. says_map (under (b - 128)) (Later n l) (Later (suc n) (b ∷ l)) (read_later n l) (more (omega (arith, ltb-false b _ f)) (s 0)) (later_says n l (λ i. s (suc i)))))
    (λ e. tt)
  where
    ends : is_last b ≡ true → groups (suc n) b ++ l ≡ b ∷ l
    ends f = rw (lt-ltb b 128 (omega (arith, ltb-true b _ f)))

    small : (m : ℕ) → b < 128 → b < 16 * 128 ^ suc m
    small m h = rw pow-suc (omega (arith, some_power m))

    more : 128 ≤ b → b < 256 → (v : ℕ) (rest : List ℕ) → Later n l v rest → Later (suc n) (b ∷ l) (under (b - 128) v) rest
    more h k v rest p =
        (ap (λ (t : List ℕ). t ++ rest) (groups_under n b v h k p.1.0) ∙ ap (λ (t : List ℕ). b ∷ t) p.0, later_under n b v h k p.1)

pub number_says : (l : List ℕ) → Bytes l → Says (λ v rest. (number_bytes v ++ rest ≡ l) × (v < 2 ^ 32)) (read_number l)
unfolding read_number groups
number_says [] s = tt
number_says (b ∷ l) s =
    by_test (λ t. Says Whole (cond t (got b l) (map_read (under (b - 128)) (read_later 3 l)))) (is_last b)
    (λ f. (ends f, omega (arith, ltb-true b _ f)))
    (λ f. says_map (under (b - 128)) (Later 3 l) Whole (read_later 3 l) (more (omega (arith, ltb-false b _ f)) (s 0)) (later_says 3 l (λ i. s (suc i))))
  where
    ends : is_last b ≡ true → groups 4 b ++ l ≡ b ∷ l
    ends f = rw (lt-ltb b 128 (omega (arith, ltb-true b _ f)))

    Whole : ℕ → List ℕ → Type 0
    Whole v rest = (number_bytes v ++ rest ≡ b ∷ l) × (v < 2 ^ 32)

    more : 128 ≤ b → b < 256 → (v : ℕ) (rest : List ℕ) → Later 3 l v rest → Whole (under (b - 128) v) rest
    more h k v rest p =
        (ap (λ (t : List ℕ). t ++ rest) (groups_under 3 b v h k p.1.0) ∙ ap (λ (t : List ℕ). b ∷ t) p.0, omega (arith, (later_under 3 b v h k p.1).1))
