-- A part of a list as what is there of it, and zeros behind. Assumes nothing.
use lib.ListN.{length-replicate, replicate-append-replicate}
use Rattle.std.proofs.Common.{◌≡◌, ◌≤◌, ◌+◌, ◌-◌, ◌∙◌, ℕ, List, [], ◌++◌, length, take, drop, replicate, sym, ap, ap₂, append-nil, zero-add, take_all, drop_of_length-le, get_or-drop, length-drop, length-take-le, length-append, take_at, drop_at, append_assoc, min, arith, unwrap_or, Option, Some, None, Bor}
use native.Mathlib.Decide.{dec_le}
use Rattle.std.specs.Slice.{IsGetRangeResult}
use Rattle.layout.specs.Words.{part, zeros}
use Rattle.std.proofs.lemmas.List.{take-append-le, take_min}
use Rattle.std.proofs.Math.Seq.{take-append-add}
use borrow.Rule.Slice.PartMut.{put_mid}
use Rattle.layout.proofs.Tab.{tab_same, drop_zeros}
use Rattle.layout.proofs.Packing.{part_within, part_padded}

-- the front of a list, and zeros behind it where it is shorter
pub part_filled : (n : ℕ) (l : List ℕ) → part n l 0 ≡ take n l ++ zeros (n - length l)
unfolding zeros
part_filled n l = elim (dec_le n (length l)) [
  | yes h ↦ (let e : n - length l ≡ 0 = omega (arith, h) in part_within n l 0 (omega (arith, h)) ∙ sym (append-nil (take n l)) ∙ ap (λ k. take n l ++ zeros k) (sym e))
  | no h ↦ part_padded n l (omega arith) ∙ ap (λ x. x ++ zeros (n - length l)) (sym (take_all n l (omega arith)))
]

pub part_drop : (n at : ℕ) (l : List ℕ) → part n (drop at l) 0 ≡ part n l at
unfolding part
part_drop n at l = tab_same n _ _ (λ k. rw zero-add (get_or-drop at l k 0))

-- what `get` has of a list from an index on
pub got : {A : Type 0} (at : ℕ) (l : List A) (r : Option (Bor (List A))) (e x : Bor (List A)) → x ≡ unwrap_or r e → e.now ≡ [] → IsGetRangeResult l at (length l) r
    → x.now ≡ drop at l
got {A} at l r e x is none result = ap (λ (y : Bor (List A)). y.now) is ∙ rest r result
  where
    rest : (r : Option (Bor (List A))) → IsGetRangeResult l at (length l) r → (unwrap_or r e).now ≡ drop at l
    rest None g = none ∙ sym (drop_of_length-le l {i = at} (omega (arith, g.0)))
    rest (Some x) g = g.0.2 ∙ take_all (length l - at) (drop at l) (omega (arith, length-drop at l))

-- the first n of a list, where it has them
pub all_there : {A : Type 0} (n : ℕ) (d : A) (l x : List A) → n ≤ length l → x ≡ take n l → x ≡ take n l ++ replicate (n - length l) d
all_there n d l x h e =
    let none : 0 ≡ n - length l = omega (arith, h) in
    e ∙ sym (append-nil (take n l)) ∙ ap (λ k. take n l ++ replicate k d) none

-- the back of a run of one element
pub drop_run : {A : Type 0} (k n : ℕ) (d : A) → k ≤ n → drop k (replicate n d) ≡ replicate (n - k) d
drop_run k n d h =
    ap (λ i. drop k (replicate i d)) (omega (arith, h)) ∙ ap (drop k) (sym (replicate-append-replicate k (n - k) d))
    ∙ drop_at (replicate k d) (replicate (n - k) d) k (length-replicate k d)

-- a shorter list, copied over a run of one element
pub some_there : {A : Type 0} (n : ℕ) (d : A) (l x : List A) → length l ≤ n → x ≡ l
    → x ++ drop (length l) (replicate n d) ≡ take n l ++ replicate (n - length l) d
some_there n d l x h e = ap₂ (λ y z. y ++ z) (e ∙ sym (take_all n l h)) (drop_run (length l) n d h)

-- the front of two lists, one after the other: as much of each as there is room for
two_fronts : (n i j : ℕ) (a b : List ℕ) → i ≡ min (length a) n → j ≡ min (length b) (n - i) → take n (a ++ b) ≡ take i a ++ take j b
two_fronts n i j a b ei ej = elim (dec_le n (length a)) [
  | yes h ↦ (
      let p : n ≡ i = omega (arith, ei) in
      let q : 0 ≡ j = omega (arith, ej, p) in
      take-append-le n a b h ∙ sym (append-nil (take n a)) ∙ ap₂ (λ x y. take x a ++ take y b) p q
      )
  | no h ↦ (
      let p : i ≡ length a = omega (arith, ei) in
      let q : length a + (n - length a) ≡ n = omega arith in
      let s : take (n - length a) b ≡ take j b = sym (take_min (n - length a) b) ∙ ap (λ k. take k b) (omega (arith, ej, p)) in
      ap (λ k. take k (a ++ b)) (sym q) ∙ take-append-add a b (n - length a) ∙ ap₂ (λ x y. x ++ y) (sym (ap (λ k. take k a) p ∙ take_all (length a) a (omega arith))) s
      )
]

-- two copies, one behind the other, into zeros
pub two_copied : (n i j : ℕ) (a b o p : List ℕ) → i ≡ min (length a) n → j ≡ min (length b) (n - i) → o ≡ take i a → p ≡ take j b
    → put_mid i (i + j - i) (o ++ drop i (replicate n 0)) p ≡ part n (a ++ b) 0
unfolding zeros
two_copied n i j a b o p ei ej eo ep =
    let lo : length o ≡ i = ap length eo ∙ length-take-le i a (omega (arith, ei)) in
    let z : List ℕ = drop i (replicate n 0) in
    let back : drop (i + j - i) (drop i (o ++ z)) ≡ replicate (n - length (a ++ b)) 0 =
    ap₂ drop (omega arith) (drop_at o z i lo ∙ drop_zeros i n (omega (arith, ei))) ∙ drop_zeros j (n - i) (omega (arith, ej))
    ∙ ap (λ k. replicate k 0) (omega (arith, ei, ej, length-append a b)) in
    ap₂ (λ x y. x ++ (p ++ y)) (take_at o z i lo) back
    ∙ ap₂ (λ x y. x ++ (y ++ replicate (n - length (a ++ b)) 0)) eo ep
    ∙ sym (append_assoc (take i a) (take j b) (replicate (n - length (a ++ b)) 0))
    ∙ ap (λ x. x ++ replicate (n - length (a ++ b)) 0) (sym (two_fronts n i j a b ei ej))
    ∙ sym (part_filled n (a ++ b))

-- a part of the whole length is the list
pub part_whole : (n : ℕ) (l : List ℕ) → length l ≡ n → part n l 0 ≡ l
part_whole n l e = part_within n l 0 (omega (arith, e)) ∙ take_all n l (omega (arith, e))
