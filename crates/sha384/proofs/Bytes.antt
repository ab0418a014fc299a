-- Stores and copies into buffers of a known length. Assumes nothing.
use mathlib.Core.Path.{◌≡◌, refl, sym, ap, ap₂, ◌∙◌}
use mathlib.Core.List.{List, [], ◌∷◌, ◌++◌, append_assoc}
use Prim.Native.Nat.{ℕ, zero, suc, ◌<◌, ◌+◌, ◌/◌, ◌%◌, ◌^◌, ◌≤◌}
use native.Mathlib.Nat.{div-one}
use Rattle.std.specs.Int.{w64, to_be_bytes}
use native.Mathlib.Omega.{arith}
use lib.ListN.{length, take, drop, get_or}
use lib.Seq.{ext_get_or, sets, sets-eq, drop-drop}
use borrow.Rule.Slice.PartMut.{post_of, put_mid}
use Rattle.sha384.specs.Sha384.{bytes_of, first_six}
use Rattle.sha_block.specs.Blocks.{hash_value}
use Rattle.std.specs.Prelude.{flat_map}

-- a copy that fills the n bytes from i on
pub copied : (n i : ℕ) (l v o : List ℕ) → length v ≡ n → i + n ≤ length l → o ≡ v → put_mid i n l o ≡ sets l i v
copied n i l v o hv hl e =
    let rest : post_of i n l ≡ drop (i + length v) l = drop-drop n i l ∙ ap (λ (k : ℕ). drop (i + k) l) (sym hv) in
    ap₂ (λ (x y : List ℕ). take i l ++ (x ++ y)) e rest ∙ sym (append_assoc (take i l) v (drop (i + length v) l))
    ∙ sym (sets-eq v l i (omega arith))

-- `to_be_bytes`, at eight bytes
pub be_bytes : (x : ℕ) → to_be_bytes w64 x ≡ bytes_of 8 x
be_bytes x =
    ap
    (λ (low : ℕ).
    x / 256 ^ 7 % 256 ∷ x / 256 ^ 6 % 256 ∷ x / 256 ^ 5 % 256 ∷ x / 256 ^ 4 % 256 ∷ x / 256 ^ 3 % 256 ∷ x / 256 ^ 2 % 256 ∷ x / 256 ^ 1 % 256 ∷ low % 256 ∷ [])
    (sym (div-one x))

-- the bytes of eight words one after another, up to the sixth
pub six_of_eight : (h : List ℕ) (ys : List (List ℕ)) → length ys ≡ 8 → ((i : ℕ) → i < 8 → get_or ys i [] ≡ bytes_of 8 (get_or h i 0))
    → take 48 (flat_map (λ x. x) ys) ≡ first_six (hash_value h)
unfolding first_six
six_of_eight h ys long each = ap (λ (l : List (List ℕ)). take 48 (flat_map (λ x. x) l)) (ext_get_or [] ys words long (λ i b. each i (omega (arith, b, long)) ∙ sym (word i (omega (arith, b, long)))))
  where
    words : List (List ℕ)
    words = bytes_of 8 (get_or h 0 0) ∷ bytes_of 8 (get_or h 1 0) ∷ bytes_of 8 (get_or h 2 0) ∷ bytes_of 8 (get_or h 3 0) ∷ bytes_of 8 (get_or h 4 0)
        ∷ bytes_of 8 (get_or h 5 0) ∷ bytes_of 8 (get_or h 6 0) ∷ bytes_of 8 (get_or h 7 0) ∷ []

    word : (i : ℕ) → i < 8 → get_or words i [] ≡ bytes_of 8 (get_or h i 0)
    word zero b = refl
    word (suc zero) b = refl
    word (suc (suc zero)) b = refl
    word (suc (suc (suc zero))) b = refl
    word (suc (suc (suc (suc zero)))) b = refl
    word (suc (suc (suc (suc (suc zero))))) b = refl
    word (suc (suc (suc (suc (suc (suc zero)))))) b = refl
    word (suc (suc (suc (suc (suc (suc (suc zero))))))) b = refl
    word (suc (suc (suc (suc (suc (suc (suc (suc i)))))))) b = absurd (omega (arith, b))
