-- The whole blocks of a message and then the blocks that end it are the blocks of the padded message. Assumes nothing.
use mathlib.Core.Path.{◌≡◌, sym, ap, ap₂, ◌∙◌}
use mathlib.Core.List.{List, ◌++◌, append_assoc}
use Prim.Native.Nat.{ℕ, ◌+◌, ◌*◌, ◌/◌}
use native.Mathlib.Omega.{arith}
use lib.ListN.{length, take, drop, length-append, take-append-drop}
use lib.Seq.{length-take-le}
use Rattle.sha_block.specs.Blocks.{hashed, hash_words, hash_value, absorbed}
use Rattle.sha_block.specs.declared.state.State.{State}
use Rattle.sha_block.proofs.Hashed.{hashed_front, hashed_append}
use Rattle.sha384.specs.Constants.{constants, initial_of}
use Rattle.sha384.specs.Sha384.{padding, padded, hash_of}

pub in_two_runs : (m t : List ℕ) (h r : State) → h ≡ hashed constants initial_of m (length m / 128) → t ≡ drop (length m / 128 * 128) m ++ padding (length m)
    → r ≡ hashed constants h t (length t / 128) → r ≡ hash_of m
unfolding padded hash_of
in_two_runs m t h r eh et er =
    let q = length m / 128 in
    let front = take (q * 128) m in
    let lf : length front ≡ q * 128 = length-take-le (q * 128) m (omega arith) in
    let whole : front ++ drop (q * 128) m ≡ m = take-append-drop (q * 128) m in
    let first : h ≡ hashed constants initial_of front q =
    eh ∙ ap (λ (l : List ℕ). hashed constants initial_of l q) (sym whole) ∙ hashed_front constants initial_of front (drop (q * 128) m) q (omega arith) in
    let split : m ++ padding (length m) ≡ front ++ t =
    ap (λ (l : List ℕ). l ++ padding (length m)) (sym whole) ∙ append_assoc front (drop (q * 128) m) (padding (length m))
    ∙ ap (λ (l : List ℕ). front ++ l) (sym et) in
    let blocks : length (m ++ padding (length m)) / 128 ≡ q + length t / 128 = ap (λ (l : List ℕ). length l / 128) split
    ∙ omega (arith, length-append front t) in
    er ∙ ap (λ (x : State). hashed constants x t (length t / 128)) first
    ∙ sym (ap₂ (hashed constants initial_of) split blocks ∙ hashed_append constants initial_of front t q (length t / 128) lf)

-- one block, and two blocks one after the other, over lent words
pub one_run : (k h b p : List ℕ) → b ≡ p → length b ≡ 128 → absorbed k h b (length b / 128) ≡ hash_words (hashed k (hash_value h) p (length p / 128))
one_run k h b p e l =
    let n : length b / 128 ≡ 1 = omega arith in
    ap (absorbed k h b) n ∙ ap hash_words (ap (hashed k (hash_value h) b) (sym n) ∙ ap (λ (q : List ℕ). hashed k (hash_value h) q (length q / 128)) e)

pub two_runs : (k h p x y : List ℕ) {b c i r : List ℕ} → b ≡ x → c ≡ y → i ≡ absorbed k h b (length b / 128) → r ≡ absorbed k i c (length c / 128) → x ++ y ≡ p
    → length x ≡ 128 → length y ≡ 128 → r ≡ hash_words (hashed k (hash_value h) p (length p / 128))
two_runs k h p x y eb ec ei er e lx ly =
    let nx : length x / 128 ≡ 1 = omega arith in
    let ny : length y / 128 ≡ 1 = omega arith in
    let np : 2 ≡ length (x ++ y) / 128 = omega (arith, length-append x y) in
    er ∙ ap₂ (λ (l z : List ℕ). absorbed k l z (length z / 128)) (ei ∙ ap (λ (z : List ℕ). absorbed k h z (length z / 128)) eb) ec
    ∙ ap₂ (λ (m n : ℕ). absorbed k (absorbed k h x m) y n) nx ny
    ∙ ap hash_words
    (sym (hashed_append k (hash_value h) x y 1 1 (omega arith)) ∙ ap (hashed k (hash_value h) (x ++ y)) np
    ∙ ap (λ (q : List ℕ). hashed k (hash_value h) q (length q / 128)) e)
