-- Blocks one after the other: one block more, and the blocks of appended bytes. Assumes nothing.
use Rattle.std.proofs.Common.{◌≡◌, ℕ, zero, suc, ◌+◌, ◌*◌, ◌<◌, ◌≤◌, List, [], ◌∷◌, ◌++◌, length, get_or, sym, refl, ap, ◌∙◌, ap₂, add-zero, add-suc, add-one, arith, get_or-append-add}
use lib.ListN.{get_or-append}
use Rattle.sha_block.specs.Blocks.{word_at, block_words, block_of, hashed, hash_words, hash_value, absorbed}
use Rattle.sha_block.specs.declared.state.State.{State}

-- one block more
pub absorbed_more : (k h p : List ℕ) (q : ℕ) {l r : List ℕ} → l ≡ absorbed k h p q → r ≡ hash_words (block_of k (hash_value l) (block_words p (q * 128) 16))
    → r ≡ absorbed k h p (q + 1)
absorbed_more k h p q e er = rw add-one (er ∙ ap (λ (l : List ℕ). hash_words (block_of k (hash_value l) (block_words p (q * 128) 16))) e)

-- over the words of a hash value
pub absorbed_words : (k : List ℕ) (h : State) (p : List ℕ) (n : ℕ) → absorbed k (hash_words h) p n ≡ hash_words (hashed k h p n)
absorbed_words k h p zero = refl
absorbed_words k h p (suc n) = ap (λ (l : List ℕ). hash_words (block_of k (hash_value l) (block_words p (n * 128) 16))) (absorbed_words k h p n)

-- over any words, from one block on
absorbed_value : (k h p : List ℕ) (n : ℕ) → hash_value (absorbed k h p n) ≡ hashed k (hash_value h) p n
absorbed_value k h p zero = refl
absorbed_value k h p (suc n) = ap (λ (s : State). block_of k s (block_words p (n * 128) 16)) (absorbed_value k h p n)

pub absorbed_hashed : (k h p : List ℕ) (n : ℕ) → absorbed k h p (suc n) ≡ hash_words (hashed k (hash_value h) p (suc n))
absorbed_hashed k h p n = ap hash_words (absorbed_value k h p (suc n))

-- words of equal bytes are equal
same_word : (s t : List ℕ) (i j : ℕ) → ((d : ℕ) → d < 8 → get_or s (i + d) 0 ≡ get_or t (j + d) 0) → word_at s i ≡ word_at t j
unfolding word_at
same_word s t i j e =
    let z : get_or s i 0 ≡ get_or t j 0 = ap (λ (x : ℕ). get_or s x 0) (sym (add-zero i)) ∙ e 0 (omega arith) ∙ ap (λ (x : ℕ). get_or t x 0) (add-zero j) in
    let e1 = e 1 (omega arith) in
    let e2 = e 2 (omega arith) in
    let e3 = e 3 (omega arith) in
    let e4 = e 4 (omega arith) in
    let e5 = e 5 (omega arith) in
    let e6 = e 6 (omega arith) in
    let e7 = e 7 (omega arith) in
    cc

same_words : (s t : List ℕ) (i j n : ℕ) → ((d : ℕ) → d < n * 8 → get_or s (i + d) 0 ≡ get_or t (j + d) 0) → block_words s i n ≡ block_words t j n
same_words s t i j zero e = refl
same_words s t i j (suc n) e =
    ap₂ (λ (l : List ℕ) (x : ℕ). l ++ (x ∷ [])) (same_words s t i j n (λ d h. e d (omega arith)))
    (same_word s t (i + n * 8) (j + n * 8)
    (λ d h. ap (λ (x : ℕ). get_or s x 0) (omega arith) ∙ e (n * 8 + d) (omega arith) ∙ ap (λ (x : ℕ). get_or t x 0) (omega arith)))

-- the first n blocks of s ++ t are those of s, where s has them all
pub hashed_front : (k : List ℕ) (h : State) (s t : List ℕ) (n : ℕ) → n * 128 ≤ length s → hashed k h (s ++ t) n ≡ hashed k h s n
hashed_front k h s t zero l = refl
hashed_front k h s t (suc n) l =
    ap₂ (block_of k) (hashed_front k h s t n (omega arith))
    (same_words (s ++ t) s (n * 128) (n * 128) 16 (λ d b. get_or-append s t 0 (n * 128 + d) (omega arith)))

-- the law of appended blocks: m blocks s, and then n blocks of t, from where s left the hash value
pub hashed_append : (k : List ℕ) (h : State) (s t : List ℕ) (m n : ℕ) → length s ≡ m * 128 → hashed k h (s ++ t) (m + n) ≡ hashed k (hashed k h s m) t n
hashed_append k h s t m zero l = rw add-zero (hashed_front k h s t m (omega arith))
hashed_append k h s t m (suc n) l =
    rw add-suc
    (ap₂ (block_of k) (hashed_append k h s t m n l)
    (same_words (s ++ t) t ((m + n) * 128) (n * 128) 16
    (λ d b. ap (λ (x : ℕ). get_or (s ++ t) x 0) (omega arith) ∙ get_or-append-add s t (n * 128 + d) 0)))
