-- The state after a message: it depends on the bytes only, not on where they were cut. Assumes nothing.
use mathlib.Core.Path.{◌≡◌, refl, sym, ap, ap₂, ◌∙◌}
use mathlib.Core.Bool.{true}
use mathlib.Core.List.{List, [], ◌++◌, append_assoc}
use Prim.Native.Nat.{ℕ, zero, suc, ◌^◌, ◌<◌, ◌+◌, ◌-◌, ◌*◌, ◌/◌, ◌%◌, ◌≤◌}
use native.Mathlib.Omega.{arith}
use borrow.Author.Tests.{eq-eqb, le-leb}
use lib.ListN.{get_or, length-replicate}
use lib.ListN.{length, take, drop, replicate, length-append, length-drop, take-append-drop}
use lib.Seq.{take_at, drop-append-add, length-take-le}
use Rattle.sha_block.specs.Rounds.{next_hash}
use Rattle.sha_block.specs.Blocks.{block_of, hashed, hash_words, absorbed}
use Rattle.sha_block.specs.declared.state.State.{State}
use Rattle.sha_block.proofs.Hashed.{hashed_front, hashed_append, absorbed_words}
use Rattle.sha384.specs.Constants.{constants, initial_of}
use Rattle.sha384.specs.Sha384.{padding, first_six, sha384}
use Rattle.sha384.specs.Entries.{concluded}
use Rattle.sha384.proofs.Hash.{in_two_runs}
use Rattle.running.specs.Running.{longest_total, filled, begun, agree, agrees, fed_of}
use Rattle.running.specs.declared.Running.{Running}

-- the bytes of a message past its whole blocks
abbrev pub rest_of : List ℕ → List ℕ
rest_of m = drop (length m / 128 * 128) m

unfoldable pub state_of : List ℕ → Running
state_of m =
    record {
      total = length m;
      waiting = length m % 128;
      buffer = filled (rest_of m);
      hash = hash_words (hashed constants initial_of m (length m / 128));
    }

pub begun_state : begun ≡ state_of []
unfolding begun state_of filled
begun_state = refl

length_rest : (m : List ℕ) → length (rest_of m) ≡ length m % 128
length_rest m = length-drop (length m / 128 * 128) m ∙ omega arith

pub waits : (m : List ℕ) → take (length m % 128) (filled (rest_of m)) ≡ rest_of m
unfolding filled
waits m = take_at (rest_of m) (replicate (128 - length (rest_of m)) 0) (length m % 128) (length_rest m)

pub state_agrees : (m : List ℕ) → length m ≤ longest_total → agrees (state_of m) ≡ true
unfolding agree state_of
state_agrees m h = rw (eq-eqb (length m % 128) (length m % 128) refl, le-leb (length m) longest_total h)

-- the state after the bytes l, from a total of n and k bytes more, and a hash value
abbrev after : ℕ → ℕ → State → List ℕ → Running
after n k h l =
    record {
      total = n + k;
      waiting = length l % 128;
      buffer = filled (drop (length l / 128 * 128) l);
      hash = absorbed constants (hash_words h) l (length l / 128);
    }

-- one slice more is the state after the longer message
pub state_fed : (m x : List ℕ) → fed_of (state_of m) x ≡ state_of (m ++ x)
unfolding fed_of state_of
state_fed m x =
    let q = length m / 128 in
    let front = take (q * 128) m in
    let rest = rest_of m in
    let j = rest ++ x in
    let whole : front ++ rest ≡ m = take-append-drop (q * 128) m in
    let lf : length front ≡ q * 128 = length-take-le (q * 128) m (omega arith) in
    let lr = length_rest m in
    let lj : length j ≡ length m % 128 + length x = length-append rest x ∙ ap (λ (n : ℕ). n + length x) lr in
    let lm : length (m ++ x) ≡ length m + length x = length-append m x in
    let split : m ++ x ≡ front ++ j = ap (λ (l : List ℕ). l ++ x) (sym whole) ∙ append_assoc front rest x in
    let first : hashed constants initial_of m q ≡ hashed constants initial_of front q =
    ap (λ (l : List ℕ). hashed constants initial_of l q) (sym whole) ∙ hashed_front constants initial_of front rest q (omega arith) in
    let blocks : length (m ++ x) / 128 ≡ q + length j / 128 = omega arith in
    let eh : hashed constants (hashed constants initial_of m q) j (length j / 128) ≡ hashed constants initial_of (m ++ x) (length (m ++ x) / 128) =
    ap (λ (s : State). hashed constants s j (length j / 128)) first
    ∙ sym (ap₂ (hashed constants initial_of) split blocks ∙ hashed_append constants initial_of front j q (length j / 128) lf) in
    let at : length front + length j / 128 * 128 ≡ length (m ++ x) / 128 * 128 = omega arith in
    let skip : drop (length j / 128 * 128) j ≡ drop (length (m ++ x) / 128 * 128) (m ++ x) =
    sym (drop-append-add front j (length j / 128 * 128)) ∙ ap (λ (n : ℕ). drop n (front ++ j)) at ∙ ap (drop (length (m ++ x) / 128 * 128)) (sym split) in
    let same : take (length m % 128) (filled (rest_of m)) ++ x ≡ j = ap (λ (l : List ℕ). l ++ x) (waits m) in
    let left : length j % 128 ≡ length (m ++ x) % 128 = omega arith in
    let words = absorbed_words constants (hashed constants initial_of m q) j (length j / 128) ∙ ap hash_words eh in
    ap (after (length m) (length x) (hashed constants initial_of m q)) same
    ∙ (λ i. record { total = sym lm i; waiting = left i; buffer = filled (skip i); hash = words i })

-- and what waits ends the message
pub state_concluded : (m : List ℕ) → concluded (state_of m).hash (state_of m).buffer (state_of m).total ≡ sha384 m
unfolding concluded state_of sha384
state_concluded m =
    let t = take (length m % 128) (filled (rest_of m)) ++ padding (length m) in
    ap first_six
    (in_two_runs m t (hashed constants initial_of m (length m / 128)) (hashed constants (hashed constants initial_of m (length m / 128)) t (length t / 128)) refl
    (ap (λ (l : List ℕ). l ++ padding (length m)) (waits m)) refl)

-- ---- the words of a hash value are words of 64 bits

abbrev Small : List ℕ → Type 0
Small l = (i : ℕ) → get_or l i 0 < 2 ^ 64

small_eight : (s : State) → s.a < 2 ^ 64 → s.b < 2 ^ 64 → s.c < 2 ^ 64 → s.d < 2 ^ 64 → s.e < 2 ^ 64 → s.f < 2 ^ 64 → s.g < 2 ^ 64 → s.h < 2 ^ 64
    → Small (hash_words s)
small_eight s a b c d e f g h zero = a
small_eight s a b c d e f g h (suc zero) = b
small_eight s a b c d e f g h (suc (suc zero)) = c
small_eight s a b c d e f g h (suc (suc (suc zero))) = d
small_eight s a b c d e f g h (suc (suc (suc (suc zero)))) = e
small_eight s a b c d e f g h (suc (suc (suc (suc (suc zero))))) = f
small_eight s a b c d e f g h (suc (suc (suc (suc (suc (suc zero)))))) = g
small_eight s a b c d e f g h (suc (suc (suc (suc (suc (suc (suc zero))))))) = h
small_eight s a b c d e f g h (suc (suc (suc (suc (suc (suc (suc (suc i)))))))) = omega arith

small_hashed : (p : List ℕ) (n : ℕ) → Small (hash_words (hashed constants initial_of p n))
unfolding initial_of block_of next_hash
small_hashed p zero =
    small_eight initial_of (omega arith) (omega arith) (omega arith) (omega arith) (omega arith) (omega arith) (omega arith) (omega arith)
small_hashed p (suc n) =
    small_eight (hashed constants initial_of p (suc n)) (omega arith) (omega arith) (omega arith) (omega arith) (omega arith) (omega arith) (omega arith)
    (omega arith)

pub state_small : (m : List ℕ) (i : ℕ) → get_or (state_of m).hash i 0 < 2 ^ 64
unfolding state_of
state_small m i = small_hashed m (length m / 128) i

pub length_filled : (m : List ℕ) → length (state_of m).buffer ≡ 128
unfolding state_of filled
length_filled m =
    let rest = rest_of m in
    length-append rest (replicate (128 - length rest) 0) ∙ omega (arith, length_rest m, length-replicate {A = ℕ} (128 - length rest) 0)

pub length_hash : (m : List ℕ) → length (state_of m).hash ≡ 8
unfolding state_of
length_hash m = refl
