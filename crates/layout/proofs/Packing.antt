-- Bytes to words and back (document 01: "packed four to a word, first byte lowest"), both ways. Assumes nothing.
use Prim.Native.Nat.{ℕ, zero, suc, ◌+◌, ◌-◌, ◌*◌, ◌/◌, ◌%◌, ◌^◌, ◌<◌, ◌≤◌}
use mathlib.Core.Path.{◌≡◌, refl, sym, ap, ap₂, ◌∙◌}
use mathlib.Core.List.{List, ◌++◌}
use native.Mathlib.Omega.{arith}
use native.Mathlib.Nat.{add-zero, zero-add, div-one, div-div-eq-div-mul}
use native.Mathlib.Decide.{dec_lt}
use lib.ListN.{length, get_or, take, drop, length-drop, length-append, get_or-append}
use lib.Seq.{length-take-le, get_or-take, get_or-drop, get_or-append_right}
use Rattle.layout.specs.Words.{le16, le32, byte_of, words_at, bytes_in, part, zeros}
use Rattle.layout.proofs.Tab.{get_d_past, length_tab, get_d_tab, tab_is, length_zeros, get_d_zeros}

pub length_words : (n : ℕ) (b : List ℕ) (at : ℕ) → length (words_at n b at) ≡ n
unfolding words_at
length_words n b at = length_tab (λ k. le32 b (at + 4 * k)) n

pub length_bytes : (n : ℕ) (ws : List ℕ) → length (bytes_in n ws) ≡ n
unfolding bytes_in
length_bytes n ws = length_tab (λ k. byte_of (get_or ws (k / 4) 0) (k % 4)) n

pub length_part : (n : ℕ) (l : List ℕ) (at : ℕ) → length (part n l at) ≡ n
unfolding part
length_part n l at = length_tab (λ k. get_or l (at + k) 0) n

pub get_d_words : (n : ℕ) (b : List ℕ) (at i : ℕ) → i < n → get_or (words_at n b at) i 0 ≡ le32 b (at + 4 * i)
unfolding words_at
get_d_words n b at i h = get_d_tab (λ k. le32 b (at + 4 * k)) n i h

pub get_d_bytes : (n : ℕ) (ws : List ℕ) (i : ℕ) → i < n → get_or (bytes_in n ws) i 0 ≡ byte_of (get_or ws (i / 4) 0) (i % 4)
unfolding bytes_in
get_d_bytes n ws i h = get_d_tab (λ k. byte_of (get_or ws (k / 4) 0) (k % 4)) n i h

pub get_d_part : (n : ℕ) (l : List ℕ) (at i : ℕ) → i < n → get_or (part n l at) i 0 ≡ get_or l (at + i) 0
unfolding part
get_d_part n l at i h = get_d_tab (λ k. get_or l (at + k) 0) n i h

-- a number from its bytes, one by one
module _ (l : List ℕ) (at a b : ℕ) (first : a ≡ get_or l (at + 0) 0) (second : b ≡ get_or l (at + 1) 0) where
  pub le16_read : a + 256 * b ≡ le16 l at
  le16_read = rw (first, second, add-zero)

  pub le32_read : (c d : ℕ) → c ≡ get_or l (at + 2) 0 → d ≡ get_or l (at + 3) 0 → a + 256 * b + 65536 * c + 16777216 * d ≡ le32 l at
  le32_read c d third fourth = rw (first, second, third, fourth, add-zero)

-- past the end of the bytes
pub le32_past : (l : List ℕ) (i : ℕ) → length l ≤ i → 0 ≡ le32 l i
le32_past l i h = omega (arith, get_d_past l i h, get_d_past l (i + 1) (omega arith), get_d_past l (i + 2) (omega arith), get_d_past l (i + 3) (omega arith))

-- a byte of four, from the word they make
picked : (a b c d w : ℕ) → a < 256 → b < 256 → c < 256 → d < 256 → w ≡ a + 256 * b + 65536 * c + 16777216 * d
    → (byte_of w 0 ≡ a) × (byte_of w 1 ≡ b) × (byte_of w 2 ≡ c) × (byte_of w 3 ≡ d)
picked a b c d w ha hb hc hd e = (omega arith, omega arith, omega arith, omega arith)

-- from bytes to words and back
pub bytes_words : (n : ℕ) (b : List ℕ) → length b ≡ 4 * n → ((i : ℕ) → get_or b i 0 < 256) → bytes_in (4 * n) (words_at n b 0) ≡ b
unfolding bytes_in
bytes_words n b h small = tab_is (λ k. byte_of (get_or (words_at n b 0) (k / 4) 0) (k % 4)) b (4 * n) h at
  where
    four : (q : ℕ) → (byte_of (le32 b (4 * q)) 0 ≡ get_or b (4 * q) 0) × (byte_of (le32 b (4 * q)) 1 ≡ get_or b (4 * q + 1) 0)
        × (byte_of (le32 b (4 * q)) 2 ≡ get_or b (4 * q + 2) 0) × (byte_of (le32 b (4 * q)) 3 ≡ get_or b (4 * q + 3) 0)
    four q = picked _ _ _ _ (le32 b (4 * q)) (small (4 * q)) (small (4 * q + 1)) (small (4 * q + 2)) (small (4 * q + 3)) refl

    byte : (q r : ℕ) → r < 4 → byte_of (le32 b (4 * q)) r ≡ get_or b (4 * q + r) 0
    byte q zero l = (four q).0 ∙ ap (λ (k : ℕ). get_or b k 0) (omega arith)
    byte q (suc zero) l = (four q).1
    byte q (suc (suc zero)) l = (four q).2
    byte q (suc (suc (suc zero))) l = (four q).3
    byte q (suc (suc (suc (suc r)))) l = absurd (omega arith)

    at : (i : ℕ) → i < 4 * n → byte_of (get_or (words_at n b 0) (i / 4) 0) (i % 4) ≡ get_or b i 0
    at i l =
        let q = i / 4 in
        ap (λ (w : ℕ). byte_of w (i % 4)) (get_d_words n b 0 q (omega arith) ∙ ap (le32 b) (zero-add (4 * q)))
        ∙ byte q (i % 4) (omega arith)
        ∙ ap (λ (k : ℕ). get_or b k 0) (omega arith)

-- equal bytes make equal numbers
pub same : {a b c d e f g h : ℕ} → a ≡ e → b ≡ f → c ≡ g → d ≡ h → a + 256 * b + 65536 * c + 16777216 * d ≡ e + 256 * f + 65536 * g + 16777216 * h
same p q r t = omega arith

digit : (x : ℕ) → x ≡ x % 256 + 256 * (x / 256)
digit x = omega arith

linear : (w p q r a b c : ℕ) → w ≡ a + 256 * p → p ≡ b + 256 * q → q ≡ c + 256 * r → a + 256 * b + 65536 * c + 16777216 * r ≡ w
linear w p q r a b c e f g = omega arith

-- a number below 2 ^ 32 from its four bytes
pub joined : (w : ℕ) → w < 2 ^ 32 → byte_of w 0 + 256 * byte_of w 1 + 65536 * byte_of w 2 + 16777216 * byte_of w 3 ≡ w
joined w l =
    let p : w / 65536 ≡ w / 256 / 256 = sym (div-div-eq-div-mul w 256 256) in
    let q : w / 16777216 ≡ w / 256 / 256 / 256 = sym (div-div-eq-div-mul w 65536 256) ∙ ap (λ (x : ℕ). x / 256) p in
    let top : w / 16777216 % 256 ≡ w / 256 / 256 / 256 = omega (arith, q) in
    let mid : w / 65536 % 256 ≡ w / 256 / 256 % 256 = ap (λ (x : ℕ). x % 256) p in
    let low : w / 1 % 256 ≡ w % 256 = ap (λ (x : ℕ). x % 256) (div-one w) in
    same low refl mid top ∙ linear _ _ _ _ _ _ _ (digit w) (digit (w / 256)) (digit (w / 256 / 256))

-- from words to bytes and back
pub words_bytes : (n : ℕ) (ws : List ℕ) → length ws ≡ n → ((i : ℕ) → get_or ws i 0 < 2 ^ 32) → words_at n (bytes_in (4 * n) ws) 0 ≡ ws
unfolding words_at
words_bytes n ws h small = tab_is (λ k. le32 (bytes_in (4 * n) ws) (0 + 4 * k)) ws n h at
  where
    at : (i : ℕ) → i < n → le32 (bytes_in (4 * n) ws) (0 + 4 * i) ≡ get_or ws i 0
    at i l =
        let get : (j : ℕ) → j < 4 → get_or (bytes_in (4 * n) ws) (4 * i + j) 0 ≡ byte_of (get_or ws i 0) j =
        λ j lj.
        let e : (4 * i + j) / 4 ≡ i = omega arith in
        let f : (4 * i + j) % 4 ≡ j = omega arith in
        get_d_bytes (4 * n) ws (4 * i + j) (omega arith) ∙ ap₂ (λ (x y : ℕ). byte_of (get_or ws x 0) y) e f in
        let z : 0 + 4 * i ≡ 4 * i = omega arith in
        let b0 : get_or (bytes_in (4 * n) ws) (4 * i) 0 ≡ byte_of (get_or ws i 0) 0 = ap (λ (k : ℕ). get_or (bytes_in (4 * n) ws) k 0) (omega arith)
        ∙ get 0 (omega arith) in
        let b1 = get 1 (omega arith) in
        let b2 = get 2 (omega arith) in
        let b3 = get 3 (omega arith) in
        ap (le32 (bytes_in (4 * n) ws)) z ∙ same b0 b1 b2 b3 ∙ joined (get_or ws i 0) (small i)

-- a part that lies within a list
pub part_within : (n : ℕ) (l : List ℕ) (at : ℕ) → at + n ≤ length l → part n l at ≡ take n (drop at l)
unfolding part
part_within n l at h =
    let long : length (take n (drop at l)) ≡ n = length-take-le n (drop at l) (omega (arith, length-drop at l)) in
    tab_is (λ k. get_or l (at + k) 0) (take n (drop at l)) n long (λ i b. sym (get_or-take n (drop at l) i 0 b ∙ get_or-drop at l i 0))

-- and from a shorter list, with zeros behind it
pub part_padded : (n : ℕ) (l : List ℕ) → length l ≤ n → part n l 0 ≡ l ++ zeros (n - length l)
unfolding part
part_padded n l h =
    tab_is (λ k. get_or l (0 + k) 0) (l ++ zeros (n - length l)) n
    (length-append l (zeros (n - length l)) ∙ omega (arith, length_zeros (n - length l)))
    (λ i b. rw zero-add (elim (dec_lt i (length l)) [
      | yes s ↦ sym (get_or-append l (zeros (n - length l)) 0 i s)
      | no s ↦ sym (get_d_past l i (omega arith)) ∙ sym (get_or-append_right l (zeros (n - length l)) i 0 (omega arith) ∙ get_d_zeros (n - length l) (i - length l) (omega arith))
    ]))
