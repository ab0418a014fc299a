-- Stores of a state's parts, one behind the other. Assumes nothing.
use mathlib.Core.Path.{◌≡◌, refl, sym, ap, ap₂, ◌∙◌}
use mathlib.Core.List.{List, [], ◌∷◌, ◌++◌, append_assoc}
use Rattle.std.specs.Prelude.{flat_map}
use Prim.Native.Nat.{ℕ, suc, ◌+◌, ◌-◌, ◌*◌, ◌%◌, ◌<◌}
use native.Mathlib.Omega.{arith}
use lib.ListN.{length, get_or, length-append}
use lib.Seq.{sets}
use native.Mathlib.Nat.{div-one}
use Rattle.std.specs.Int.{w64, to_le_bytes}
use Rattle.layout.specs.Words.{byte_of, bytes8}
use Rattle.layout.proofs.Blocks.{sets_join, sets_whole}
use Rattle.running.specs.declared.Running.{Running}
use Rattle.running_bytes.specs.Coding.{total_in, waiting_in, buffer_in, hash_in, state_size, long_bytes, state_bytes}

-- `to_le_bytes`, at eight bytes
pub le_bytes : (x : ℕ) → to_le_bytes w64 x ≡ bytes8 x
le_bytes x =
    ap (λ (low : ℕ). low % 256 ∷ byte_of x 1 ∷ byte_of x 2 ∷ byte_of x 3 ∷ byte_of x 4 ∷ byte_of x 5 ∷ byte_of x 6 ∷ byte_of x 7 ∷ []) (sym (div-one x))

pub long_append : (a b : List ℕ) → long_bytes (a ++ b) ≡ long_bytes a ++ long_bytes b
long_append [] b = refl
long_append (x ∷ a) b = ap (λ (l : List ℕ). bytes8 x ++ l) (long_append a b) ∙ sym (append_assoc (bytes8 x) (long_bytes a) (long_bytes b))

pub length_long : (a : List ℕ) → length (long_bytes a) ≡ 8 * length a
length_long [] = refl
length_long (x ∷ a) = length-append (bytes8 x) (long_bytes a) ∙ omega (arith, length_long a)

-- the words' bytes, lent one after another
pub flattened : (h : List ℕ) (ys : List (List ℕ)) → length ys ≡ length h → ((i : ℕ) → i < length h → get_or ys i [] ≡ bytes8 (get_or h i 0))
    → flat_map (λ x. x) ys ≡ long_bytes h
flattened [] [] l e = refl
flattened [] (y ∷ ys) l e = absurd (omega (arith, l))
flattened (x ∷ h) [] l e = absurd (omega (arith, l))
flattened (x ∷ h) (y ∷ ys) l e = ap₂ (λ a b. a ++ b) (e 0 (omega arith)) (flattened h ys (omega (arith, l)) (λ i b. e (suc i) (omega (arith, b))))

-- the four parts make the whole
pub state_placed : (st : Running) (l : List ℕ) {o1 o2 o3 o4 : List ℕ} → length l ≡ state_size → length st.buffer ≡ hash_in - buffer_in → length st.hash ≡ 8
    → o1 ≡ sets l total_in (bytes8 st.total) → o2 ≡ sets o1 waiting_in (bytes8 st.waiting) → o3 ≡ sets o2 buffer_in st.buffer
    → o4 ≡ sets o3 hash_in (long_bytes st.hash) → o4 ≡ state_bytes st
unfolding state_bytes
state_placed st l hl hb hh e1 e2 e3 e4 =
    let t = bytes8 st.total in
    let w = bytes8 st.waiting in
    let b = st.buffer in
    let h = long_bytes st.hash in
    let at : hash_in ≡ 0 + length ((t ++ w) ++ b) = omega (arith, length-append (t ++ w) b) in
    let lh : length h ≡ 64 = length_long st.hash ∙ omega arith in
    let two = e2 ∙ ap (λ (x : List ℕ). sets x waiting_in w) e1 ∙ sets_join l 0 t w in
    let three = e3 ∙ ap (λ (x : List ℕ). sets x buffer_in b) two ∙ sets_join l 0 (t ++ w) b in
    let all = e4 ∙ ap₂ (λ (x : List ℕ) (k : ℕ). sets x k h) three at ∙ sets_join l 0 ((t ++ w) ++ b) h in
    let parts : ((t ++ w) ++ b) ++ h ≡ t ++ (w ++ (b ++ h)) = append_assoc (t ++ w) b h ∙ append_assoc t w (b ++ h) in
    let size : length (t ++ (w ++ (b ++ h))) ≡ state_size = omega (arith, length-append b h) in
    all ∙ ap (sets l 0) parts ∙ sets_whole l (t ++ (w ++ (b ++ h))) (hl ∙ sym size)
