-- Bytes put behind the first ones of a slice. Assumes nothing.
use Prim.Native.Nat.{ℕ, zero, suc, ◌+◌, ◌*◌, ◌/◌, ◌%◌, ◌^◌, ◌≤◌, ◌<◌}
use mathlib.Core.Path.{◌≡◌, refl, sym, ap, ◌∙◌}
use mathlib.Core.List.{List, [], ◌∷◌, ◌++◌, append_assoc}
use native.Mathlib.Omega.{arith}
use native.Mathlib.Nat.{pow-suc}
use native.Mathlib.Numerals.{add-one}
use lib.ListN.{length, take, set, length-set}
use lib.Seq.{take-suc-set, length-take-le}
use borrow.Author.Tests.{lt-ltb, le-ltb}
use Rattle.layout.specs.Numbers.{told_number}
use Rattle.journal.specs.Numbers.{groups, number_bytes}
use Rattle.journal_bytes.specs.Results.{taken_given, taken_number, taken_result}

-- ---- a number

groups_end : (n v : ℕ) → v < 128 → groups n v ≡ v ∷ []
unfolding groups
groups_end zero v h = refl
groups_end (suc n) v h = rw (lt-ltb v 128 h)

groups_more : (n v : ℕ) → 128 ≤ v → groups (suc n) v ≡ (128 + v % 128) ∷ groups n (v / 128)
unfolding groups
groups_more n v h = rw (le-ltb v 128 h)

-- while a number is put: v is left, in at most n groups more after its first
pub record Filling (before : List ℕ) (at x : ℕ) (out : List ℕ) (v i : ℕ) : Type 0 where
  pub n : ℕ
  pub room : n + i ≡ at + 4
  pub small : v < 16 * 128 ^ n
  pub long : length out ≡ length before
  pub bytes : take i out ++ groups n v ≡ take at before ++ number_bytes x

pub filling_start : (out : List ℕ) (at x : ℕ) → x < 2 ^ 32 → Filling out at x out x at
filling_start out at x h = record { n = 4; room = omega arith; small = omega arith; long = refl; bytes = refl }

pub filling_more : (before : List ℕ) (at x : ℕ) (out : List ℕ) (v i b : ℕ) → i < length out → 128 ≤ v → b ≡ 128 + v % 128
    → Filling before at x out v i → Filling before at x (set out i b) (v / 128) (i + 1)
filling_more before at x out v i b h k e f = by_room f.n f.room f.small f.bytes
  where
    by_room : (n : ℕ) → n + i ≡ at + 4 → v < 16 * 128 ^ n → take i out ++ groups n v ≡ take at before ++ number_bytes x
        → Filling before at x (set out i b) (v / 128) (i + 1)
    by_room zero r s q = absurd (omega arith)
    by_room (suc n) r s q =
        let s' : v < 16 * (128 ^ n * 128) = rw pow-suc at s in
        record {
          n = n;
          room = omega arith;
          small = omega arith;
          long = length-set out i b ∙ f.long;
          bytes =
              rw (add-one, take-suc-set out i b h)
              (append_assoc (take i out) (b ∷ []) (groups n (v / 128))
              ∙ ap (λ (t : List ℕ). take i out ++ t) (ap (λ (c : ℕ). c ∷ groups n (v / 128)) e ∙ sym (groups_more n v k))
              ∙ q);
        }

pub filling_end : (before : List ℕ) (at x : ℕ) (out : List ℕ) (v i : ℕ) → i < length out → v < 128
    → Filling before at x out v i → take (i + 1) (set out i v) ≡ take at before ++ number_bytes x
filling_end before at x out v i h k f =
    rw (add-one, take-suc-set out i v h) (ap (λ (t : List ℕ). take i out ++ t) (sym (groups_end f.n v k)) ∙ f.bytes)

-- ---- a first byte, and bytes put behind one another

pub one_byte : (out : List ℕ) (k : ℕ) → 0 < length out → take 1 (set out 0 k) ≡ k ∷ []
one_byte out k h = take-suc-set out 0 k h

pub joins : {a b y : List ℕ} (x : List ℕ) → a ≡ b ++ x → b ≡ y → a ≡ y ++ x
joins x p q = p ∙ ap (λ (t : List ℕ). t ++ x) q

-- ---- a draft of n bytes

pub draft_length : (d e : List ℕ) (n : ℕ) → take n d ≡ e → n ≤ length d → length e ≡ n
draft_length d e n h k = rw (← h) (length-take-le n d k)

-- ---- a taking

-- what is answered has the number of a taking
pub taken_told : (bytes buffer : List ℕ) → told_number (taken_result bytes buffer) ≡ taken_number bytes (length buffer)
unfolding taken_given taken_number taken_result
taken_told bytes buffer = refl
