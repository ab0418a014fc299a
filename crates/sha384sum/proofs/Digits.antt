-- Digits stored two by two. Assumes nothing.
use mathlib.Core.Path.{◌≡◌, refl, sym, ap, ap₂, ◌∙◌}
use mathlib.Core.List.{List, [], ◌∷◌, ◌++◌, append_assoc}
use Prim.Native.Nat.{ℕ, suc, ◌+◌, ◌*◌, ◌/◌, ◌%◌, ◌<◌}
use native.Mathlib.Numerals.{add-one}
use native.Mathlib.Omega.{arith}
use lib.ListN.{length, get_or, take, set, length-set}
use lib.Seq.{take-suc, take-suc-set}
use Rattle.sha384sum.specs.Hex.{digit_of, hex_of}

hex_append : (a b : List ℕ) → hex_of (a ++ b) ≡ hex_of a ++ hex_of b
hex_append [] b = refl
hex_append (x ∷ a) b = ap (λ (l : List ℕ). digit_of (x / 16 % 16) ∷ digit_of (x % 16) ∷ l) (hex_append a b)

-- one byte more
pub hex_more : (bytes out : List ℕ) (i d e : ℕ) → i < length bytes → 2 * i + 1 < length out → take (2 * i) out ≡ hex_of (take i bytes)
    → d ≡ digit_of (get_or bytes i 0 / 16 % 16) → e ≡ digit_of (get_or bytes i 0 % 16)
    → take (2 * (i + 1)) (set (set out (2 * i) d) (2 * i + 1) e) ≡ hex_of (take (i + 1) bytes)
hex_more bytes out i d e hi ho inv hd he =
    let j = 2 * i in
    let two : 2 * (i + 1) ≡ suc (suc j) = omega arith in
    let one : j + 1 ≡ suc j = omega arith in
    let o = set out j d in
    ap₂ (λ (a b : ℕ). take a (set o b e)) two one
    ∙ take-suc-set o (suc j) e (omega (arith, length-set out j d))
    ∙ ap (λ (l : List ℕ). l ++ (e ∷ [])) (take-suc-set out j d (omega arith))
    ∙ append_assoc (take j out) (d ∷ []) (e ∷ [])
    ∙ ap₂ (λ (a b : List ℕ). a ++ b) inv (ap₂ (λ (x y : ℕ). x ∷ y ∷ []) hd he)
    ∙ sym (rw (add-one, take-suc bytes i 0) (hex_append (take i bytes) (get_or bytes i 0 ∷ [])))
