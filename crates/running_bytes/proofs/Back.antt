-- A state's bytes give the state back. Assumes nothing.
use mathlib.Core.Path.{◌≡◌, refl, sym, ap, ap₂, ◌∙◌}
use mathlib.Core.List.{List, ◌∷◌, ◌++◌, append_assoc}
use Prim.Native.Nat.{ℕ, suc, ◌+◌, ◌-◌, ◌*◌, ◌/◌, ◌%◌, ◌^◌, ◌<◌}
use native.Mathlib.Omega.{arith}
use lib.ListN.{length, take, drop, get_or, length-append}
use lib.Seq.{take_at, length-take-le, get_or-append-add, split_at}
use Rattle.layout.specs.Words.{le32, le64, byte_of, bytes8}
use Rattle.layout.proofs.Packing.{same, joined}
use Rattle.layout.proofs.Tab.{tab_is}
use Rattle.running.specs.declared.Running.{Running}
use Rattle.running_bytes.specs.Coding.{total_in, waiting_in, buffer_in, hash_in, state_size, long_bytes, longs_at, state_bytes, state_at}
use Rattle.running_bytes.proofs.Placing.{long_append, length_long}

-- every word of a list, and what is read past its end, is below 2 ^ 64
abbrev pub Small : List ℕ → Type 0
Small l = (i : ℕ) → get_or l i 0 < 2 ^ 64

-- numbers behind others
le32_skip : (p q : List ℕ) (i : ℕ) → le32 (p ++ q) (length p + i) ≡ le32 q i
le32_skip p q i =
    let at : (d : ℕ) → get_or (p ++ q) (length p + i + d) 0 ≡ get_or q (i + d) 0 =
    λ d. ap (λ (k : ℕ). get_or (p ++ q) k 0) (omega arith) ∙ get_or-append-add p q (i + d) 0 in
    rw (get_or-append-add p q i 0, at 1, at 2, at 3)

le64_skip : (p q : List ℕ) (n : ℕ) → length p ≡ n → le64 (p ++ q) n ≡ le64 q 0
le64_skip p q n e =
    let low : n ≡ length p + 0 = omega arith in
    let high : n + 4 ≡ length p + 4 = omega arith in
    ap₂ (λ (x y : ℕ). x + 4294967296 * y) (ap (le32 (p ++ q)) low ∙ le32_skip p q 0) (ap (le32 (p ++ q)) high ∙ le32_skip p q 4)

-- a number's bytes give the number
halves : (x : ℕ) → x < 2 ^ 64 → (x / 4294967296 < 2 ^ 32) × (x % 4294967296 + 4294967296 * (x / 4294967296) ≡ x)
halves x h = (omega arith, omega arith)

low : (x : ℕ) → (byte_of x 0 ≡ byte_of (x % 4294967296) 0) × (byte_of x 1 ≡ byte_of (x % 4294967296) 1) × (byte_of x 2 ≡ byte_of (x % 4294967296) 2)
    × (byte_of x 3 ≡ byte_of (x % 4294967296) 3)
low x = (omega arith, omega arith, omega arith, omega arith)

high : (x : ℕ) → (byte_of x 4 ≡ byte_of (x / 4294967296) 0) × (byte_of x 5 ≡ byte_of (x / 4294967296) 1) × (byte_of x 6 ≡ byte_of (x / 4294967296) 2)
    × (byte_of x 7 ≡ byte_of (x / 4294967296) 3)
high x = (omega arith, omega arith, omega arith, omega arith)

le64_bytes : (x : ℕ) (r : List ℕ) → x < 2 ^ 64 → le64 (bytes8 x ++ r) 0 ≡ x
le64_bytes x r h =
    let l = low x in
    let u = high x in
    ap₂ (λ (a b : ℕ). a + 4294967296 * b) (same l.0 l.1 l.2 l.3 ∙ joined (x % 4294967296) (omega arith))
    (same u.0 u.1 u.2 u.3 ∙ joined (x / 4294967296) (halves x h).0) ∙ (halves x h).1

pub le64_back : (p r : List ℕ) (x n : ℕ) → length p ≡ n → x < 2 ^ 64 → le64 (p ++ (bytes8 x ++ r)) n ≡ x
le64_back p r x n e h = le64_skip p (bytes8 x ++ r) n e ∙ le64_bytes x r h

-- and so do those of words
longs_back : (p h : List ℕ) (n k : ℕ) → length p ≡ n → length h ≡ k → Small h → longs_at k (p ++ long_bytes h) n ≡ h
unfolding longs_at
longs_back p h n k e l small = tab_is (λ i. le64 (p ++ long_bytes h) (n + 8 * i)) h k l at
  where
    at : (i : ℕ) → i < k → le64 (p ++ long_bytes h) (n + 8 * i) ≡ get_or h i 0
    at i lt =
        let front = take i h in
        let x = get_or h i 0 in
        let rest = drop (suc i) h in
        let split : long_bytes h ≡ long_bytes front ++ (bytes8 x ++ long_bytes rest) =
        ap long_bytes (split_at h i 0 (omega arith)) ∙ long_append front (x ∷ rest) in
        let size : length (p ++ long_bytes front) ≡ n + 8 * i =
        length-append p (long_bytes front) ∙ omega (arith, length_long front, length-take-le i h (omega arith)) in
        ap (λ (s : List ℕ). le64 s (n + 8 * i)) (ap (λ (s : List ℕ). p ++ s) split ∙ sym (append_assoc p (long_bytes front) (bytes8 x ++ long_bytes rest)))
        ∙ le64_back (p ++ long_bytes front) (long_bytes rest) x (n + 8 * i) size (small i)

pub length_state : (st : Running) → length st.buffer ≡ hash_in - buffer_in → length st.hash ≡ 8 → length (state_bytes st) ≡ state_size
unfolding state_bytes
length_state st lb lh = omega (arith, length-append st.buffer (long_bytes st.hash), length_long st.hash)

pub state_back : (st : Running) → st.total < 2 ^ 64 → st.waiting < 2 ^ 64 → length st.buffer ≡ hash_in - buffer_in → length st.hash ≡ 8 → Small st.hash
    → state_at (state_bytes st) ≡ st
unfolding state_bytes state_at
state_back st ht hw lb lh small =
    let t = bytes8 st.total in
    let w = bytes8 st.waiting in
    let b = st.buffer in
    let h = long_bytes st.hash in
    let total : le64 (t ++ (w ++ (b ++ h))) total_in ≡ st.total = le64_bytes st.total (w ++ (b ++ h)) ht in
    let waiting : le64 (t ++ (w ++ (b ++ h))) waiting_in ≡ st.waiting = le64_back t (b ++ h) st.waiting waiting_in refl hw in
    let buffer : take (hash_in - buffer_in) (b ++ h) ≡ b = take_at b h (hash_in - buffer_in) lb in
    let front : t ++ (w ++ (b ++ h)) ≡ (t ++ (w ++ b)) ++ h =
    ap (λ (l : List ℕ). t ++ l) (sym (append_assoc w b h)) ∙ sym (append_assoc t (w ++ b) h) in
    let hash : longs_at 8 (t ++ (w ++ (b ++ h))) hash_in ≡ st.hash =
    ap (λ (l : List ℕ). longs_at 8 l hash_in) front ∙ longs_back (t ++ (w ++ b)) st.hash hash_in 8 (omega arith) lh small in
    λ i. record { total = total i; waiting = waiting i; buffer = buffer i; hash = hash i }
