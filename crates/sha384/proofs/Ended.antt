-- The blocks that end a padded message. Assumes nothing.
use mathlib.Core.Path.{◌≡◌, refl, sym, ap, ap₂, ◌∙◌}
use mathlib.Core.List.{List, [], ◌∷◌, ◌++◌, append_assoc, append-nil}
use Prim.Native.Nat.{ℕ, suc, ◌+◌, ◌-◌, ◌*◌, ◌/◌, ◌%◌, ◌^◌, ◌≤◌, ◌<◌}
use native.Mathlib.Omega.{arith}
use lib.ListN.{length, take, drop, set, replicate, length-append, length-replicate, replicate-append-replicate, drop_of_length-le}
use lib.Seq.{sets, sets-eq, take_at, drop_at, set_at}
use borrow.Rule.Slice.PartMut.{put_mid}
use Rattle.sha384.specs.Sha384.{bytes_of, padding}

abbrev zeros : ℕ → List ℕ
zeros n = replicate n 0

length_zeros : (n : ℕ) → length (zeros n) ≡ n
length_zeros n = length-replicate n 0

zeros_add : (a b c : ℕ) → a + b ≡ c → zeros c ≡ zeros a ++ zeros b
zeros_add a b c e = ap zeros (sym e) ∙ sym (replicate-append-replicate a b 0)

-- a length below 2 ^ 64 fills the last eight of its sixteen bytes
length_bytes : (x : ℕ) → x < 2 ^ 64 → bytes_of 16 x ≡ zeros 8 ++ bytes_of 8 x
length_bytes x h =
    let z15 : (x / 256 ^ 15) % 256 ≡ 0 = omega arith in
    let z14 : (x / 256 ^ 14) % 256 ≡ 0 = omega arith in
    let z13 : (x / 256 ^ 13) % 256 ≡ 0 = omega arith in
    let z12 : (x / 256 ^ 12) % 256 ≡ 0 = omega arith in
    let z11 : (x / 256 ^ 11) % 256 ≡ 0 = omega arith in
    let z10 : (x / 256 ^ 10) % 256 ≡ 0 = omega arith in
    let z9 : (x / 256 ^ 9) % 256 ≡ 0 = omega arith in
    let z8 : (x / 256 ^ 8) % 256 ≡ 0 = omega arith in
    cc

-- the zeros of the padding and the length, with the eight zeros before its bytes counted to the others
ending : (total g : ℕ) → total < 2 ^ 61 → (239 - total % 128) % 128 + 8 ≡ g
    → zeros g ++ bytes_of 8 (total * 8) ≡ zeros ((239 - total % 128) % 128) ++ bytes_of 16 (total * 8)
ending total g h e =
    let gap = (239 - total % 128) % 128 in
    let vs = bytes_of 8 (total * 8) in
    ap (λ (l : List ℕ). l ++ vs) (zeros_add gap 8 g e) ∙ append_assoc (zeros gap) (zeros 8) vs
    ∙ ap (λ (l : List ℕ). zeros gap ++ l) (sym (length_bytes (total * 8) (omega arith)))

-- a block of the last bytes, the byte 128 and zeros
abbrev pub marked : List ℕ → List ℕ
marked last = last ++ (128 ∷ zeros (127 - length last))

pub length_marked : (last : List ℕ) → length last < 128 → length (marked last) ≡ 128
length_marked last h = length-append last (128 ∷ zeros (127 - length last)) ∙ omega (arith, length_zeros (127 - length last))

-- it is what the copy into zeros and the store of the byte make
pub marks : (last o : List ℕ) → length last < 128 → o ≡ last → set (put_mid 0 (length last) (replicate 128 0) o) (length last) 128 ≡ marked last
marks last o h e =
    let n = length last in
    let count : 128 - n ≡ suc (127 - n) = omega arith in
    let rest : drop n (zeros 128) ≡ 0 ∷ zeros (127 - n) =
    ap (drop n) (zeros_add n (128 - n) 128 (omega arith)) ∙ drop_at (zeros n) (zeros (128 - n)) n (length_zeros n) ∙ ap zeros count in
    ap (λ (l : List ℕ). set l n 128) (ap₂ (λ (x y : List ℕ). x ++ y) e rest) ∙ set_at last 0 (zeros (127 - n)) 128 n refl

-- eight bytes stored at the end of a block
last_eight : (b front vs : List ℕ) → b ≡ front ++ zeros 8 → length front ≡ 120 → length vs ≡ 8 → sets b 120 vs ≡ front ++ vs
last_eight b front vs e l v =
    let lb : length b ≡ 128 = ap length e ∙ length-append front (zeros 8) ∙ omega (arith, l) in
    let rest : drop (120 + length vs) b ≡ [] = drop_of_length-le b {i = 120 + length vs} (omega arith) in
    sets-eq vs b 120 (omega arith)
    ∙ ap₂ (λ (x y : List ℕ). (x ++ vs) ++ y) (ap (take 120) e ∙ take_at front (zeros 8) 120 l) rest ∙ append-nil (front ++ vs)

-- where the length still fits, that block with the length is what ends the padded message
pub one_block : (last : List ℕ) (total : ℕ) → length last ≡ total % 128 → total < 2 ^ 61 → length last < 112
    → sets (marked last) 120 (bytes_of 8 (total * 8)) ≡ last ++ padding total
unfolding padding
one_block last total h t lt =
    let n = length last in
    let vs = bytes_of 8 (total * 8) in
    let split : marked last ≡ (last ++ (128 ∷ zeros (119 - n))) ++ zeros 8 =
    ap (λ (l : List ℕ). last ++ (128 ∷ l)) (zeros_add (119 - n) 8 (127 - n) (omega arith)) ∙ sym (append_assoc last (128 ∷ zeros (119 - n)) (zeros 8)) in
    last_eight (marked last) (last ++ (128 ∷ zeros (119 - n))) vs split
    (length-append last (128 ∷ zeros (119 - n)) ∙ omega (arith, length_zeros (119 - n))) refl
    ∙ append_assoc last (128 ∷ zeros (119 - n)) vs ∙ ap (λ (l : List ℕ). last ++ (128 ∷ l)) (ending total (119 - n) t (omega arith))

-- where it does not, a second block has the length alone
pub two_blocks : (last : List ℕ) (total : ℕ) → length last ≡ total % 128 → total < 2 ^ 61 → 112 ≤ length last
    → marked last ++ sets (replicate 128 0) 120 (bytes_of 8 (total * 8)) ≡ last ++ padding total
unfolding padding
two_blocks last total h t le =
    let n = length last in
    let vs = bytes_of 8 (total * 8) in
    let second : sets (zeros 128) 120 vs ≡ zeros 120 ++ vs = last_eight (zeros 128) (zeros 120) vs (zeros_add 120 8 128 refl) refl refl in
    ap (λ (l : List ℕ). marked last ++ l) second ∙ append_assoc last (128 ∷ zeros (127 - n)) (zeros 120 ++ vs)
    ∙ ap (λ (l : List ℕ). last ++ (128 ∷ l))
    (sym (append_assoc (zeros (127 - n)) (zeros 120) vs) ∙ ap (λ (l : List ℕ). l ++ vs) (sym (zeros_add (127 - n) 120 (247 - n) (omega arith)))
    ∙ ending total (247 - n) t (omega arith))
