-- Handles: their words in an image, and when two are the same. Assumes nothing.
use native.Mathlib.Nat.{zero-add}
use mathlib.Core.Path.{◌≡◌, refl, sym, ap, subst, ◌∙◌}
use Prim.Native.Nat.{ℕ, zero, suc, ◌+◌, ◌<◌}
use native.Mathlib.Omega.{arith}
use mathlib.Core.Bool.{Bool, true, false, ◌&&◌}
use mathlib.Core.List.{List, [], ◌∷◌}
use lib.Dec.{eqb}
use lib.ListN.{get_or, length}
use lib.Pointwise.{pointwise}
use borrow.Author.Tests.{eq-eqb, eqb-true}
use Rattle.std.specs.Bool.{MatchBool}
use Rattle.std.specs.List.{AllWithin, HoldsAt, range_with_len}
use Rattle.std.proofs.lemmas.List.FromFn.{length-range_with_len, get_or-range_with_len}
use Rattle.layout.specs.Sizes.{node_at, handle_at, handle_words}
use Rattle.layout.specs.Below.{all_below}
use Rattle.layout.proofs.Bounded.{all_at, all_below_law, all_fails}
use Rattle.layout.proofs.Packing.{get_d_part}
use Rattle.tree.specs.Tree.{same_handle}
use Rattle.tree.specs.Nodes.{word, tree_in}

-- word k of a node's handle
pub handle_word : (m : List ℕ) (i k : ℕ) → k < handle_words → get_or (tree_in m i).handle k 0 ≡ word m i (handle_at + k)
unfolding word tree_in
handle_word m i k l =
    let e : node_at i + handle_at + k ≡ node_at i + (handle_at + k) = omega arith in
    get_d_part handle_words m (node_at i + handle_at) k l ∙ ap (λ (x : ℕ). get_or m x 0) e

-- ---- the same handle

pub same_refl : (a : List ℕ) → same_handle a a ≡ true
unfolding same_handle
same_refl a = all_below_law (λ j. eqb (get_or a j 0) (get_or a j 0)) handle_words (λ j l. eq-eqb (get_or a j 0) (get_or a j 0) refl)

same_word : (a b : List ℕ) → same_handle a b ≡ true → (j : ℕ) → j < handle_words → get_or a j 0 ≡ get_or b j 0
unfolding same_handle
same_word a b h j l = eqb-true (get_or a j 0) (get_or b j 0) (all_at (λ j. eqb (get_or a j 0) (get_or b j 0)) handle_words j h l)

same_turned : (a b : List ℕ) → same_handle a b ≡ true → same_handle b a ≡ true
unfolding same_handle
same_turned a b h = all_below_law (λ j. eqb (get_or b j 0) (get_or a j 0)) handle_words (λ j l. eq-eqb (get_or b j 0) (get_or a j 0) (sym (same_word a b h j l)))

pub same_sym : (a b : List ℕ) → same_handle a b ≡ same_handle b a
same_sym a b = go (same_handle a b) (same_handle b a) (same_turned a b) (same_turned b a)
  where
    go : (x y : Bool) → (x ≡ true → y ≡ true) → (y ≡ true → x ≡ true) → x ≡ y
    go true true f g = refl
    go true false f g = sym (f refl)
    go false true f g = g refl
    go false false f g = refl

pub same_trans : (a b c : List ℕ) → same_handle a b ≡ true → same_handle b c ≡ true → same_handle a c ≡ true
unfolding same_handle
same_trans a b c h k =
    all_below_law (λ j. eqb (get_or a j 0) (get_or c j 0)) handle_words (λ j l. eq-eqb (get_or a j 0) (get_or c j 0) (same_word a b h j l ∙ same_word b c k j l))

-- ---- `==` of two handles

-- every number below n + 1: the first, and those after it
all_front : (p : ℕ → Bool) (n : ℕ) → all_below (suc n) p ≡ (p 0 && all_below n (λ j. p (suc j)))
unfolding all_below
all_front p zero = ends (p 0)
  where
    ends : (b : Bool) → (true && b) ≡ (b && true)
    ends true = refl
    ends false = refl
all_front p (suc n) = rw (all_front p n) (grouped (p 0) (all_below n (λ j. p (suc j))) (p (suc n)))
  where
    grouped : (a b c : Bool) → ((a && b) && c) ≡ (a && (b && c))
    grouped true b c = refl
    grouped false b c = refl

words_equal : (a b : List ℕ) → length a ≡ length b → pointwise eqb a b ≡ all_below (length a) (λ j. eqb (get_or a j 0) (get_or b j 0))
unfolding all_below
words_equal [] [] e = refl
words_equal [] (y ∷ b) e = absurd (omega (arith, e))
words_equal (x ∷ a) [] e = absurd (omega (arith, e))
words_equal (x ∷ a) (y ∷ b) e =
    ap (λ (t : Bool). eqb x y && t) (words_equal a b (omega (arith, e)))
    ∙ sym (all_front (λ j. eqb (get_or (x ∷ a) j 0) (get_or (y ∷ b) j 0)) (length a))

pub same_by_eq : (a b : List ℕ) → length a ≡ handle_words → length b ≡ handle_words → pointwise eqb a b ≡ same_handle a b
unfolding same_handle
same_by_eq a b l m = words_equal a b (l ∙ sym m) ∙ ap (λ (n : ℕ). all_below n (λ j. eqb (get_or a j 0) (get_or b j 0))) l

-- ---- `all` of a range from 0

pub all_range : (r : Bool) (p : ℕ → Bool) (n : ℕ)
    → MatchBool r (AllWithin (λ k. p k ≡ true) (range_with_len 0 n) 0 (length (range_with_len 0 n)))
    ((k : ℕ) × (k < length (range_with_len 0 n)) × HoldsAt (λ k. p k ≡ false) (range_with_len 0 n) k)
    → r ≡ all_below n p
all_range true p n h =
    sym (all_below_law p n (λ k i. subst (λ (j : ℕ). p j ≡ true) (get_or-range_with_len 0 n k 0 i ∙ zero-add k) (h k 0 (omega arith) (omega (arith, i, length-range_with_len 0 n)))))
all_range false p n h =
    let i : h.0 < n = omega (arith, h.1, length-range_with_len 0 n) in
    sym (all_fails p h.0 n (subst (λ (j : ℕ). p j ≡ false) (get_or-range_with_len 0 n h.0 0 i ∙ zero-add h.0) (h.2 0)) i)
