-- Freeing node by node, each time looking at the nodes as they then stand: the next node up is tested as `freed_by` tests it in the tree before. Assumes nothing.
use mathlib.Core.Path.{◌≡◌, refl, sym, ap, ◌∙◌}
use mathlib.Core.Logic.{◌≢◌, ◌⊎◌, inl, inr}
use Prim.Native.Nat.{ℕ, ◌≤◌}
use native.Mathlib.Decide.{ℕ_discrete}
use mathlib.Core.Bool.{Bool, true, false, not, ◌&&◌, ◌||◌, true≢false}
use lib.Dec.{eqb}
use borrow.Author.Tests.{eq-eqb, ne_eqb, lt-ltb}
use Rattle.layout.proofs.Bounded.{all_same, and-false}
use Rattle.tree.specs.Tree.{Place, free_place, Tree, retired_words, has_handle, is_root, is_child_of, leads, childless, childless_but, goes_too}
use Rattle.tree.proofs.Ways.{leads_up}
use Rattle.tree.proofs.Rooted.{placed, placed_same, placed_other}
use Rattle.tree.proofs.Freeing.{Needs}

-- a retired node that is not the root and has no child now
abbrev pub left_in : ℕ → Tree → ℕ → Bool
left_in n t p = has_handle retired_words (t p) && (not (is_root (t p)) && childless n t p)

module _ (n : ℕ) (t : Tree) where
  -- u is t without nodes whose parents need more than r steps to the root; nodes that need no more are there
  pub record Thinned (u : Tree) (r : ℕ) : Type 0 where
    pub near : (j : ℕ) → leads n t r j ≡ true → u j ≡ t j
    pub each : (j : ℕ) → (u j ≡ t j) ⊎ ((u j ≡ free_place) × (leads n t r (t j).parent ≡ false))

  -- the next node up is tested alike in both trees
  module _ (u : Tree) (i r : ℕ) (a : Needs n t i r) (h : Thinned u r) where
    abbrev p : ℕ
    p = (t i).parent

    abbrev after : Tree
    after = placed i free_place u

    up_other : p ≢ i
    up_other e = true≢false (sym a.parent ∙ ap (leads n t r) e ∙ a.not)

    pub at_parent : after p ≡ t p
    at_parent = placed_other i free_place u p up_other ∙ h.near p a.parent

    child_same : (j : ℕ) → not (is_child_of p (after j)) ≡ (eqb j i || not (is_child_of p (t j)))
    unfolding is_child_of
    child_same j = elim (ℕ_discrete j i) [
      | yes e ↦ ap (λ (q : Place). not (is_child_of p q)) (ap after e ∙ placed_same i free_place u)
          ∙ sym (ap (λ (b : Bool). b || not (is_child_of p (t j))) (eq-eqb j i e))
      | no z ↦ ap (λ (q : Place). not (is_child_of p q)) (placed_other i free_place u j z)
          ∙ still (h.each j)
          ∙ sym (ap (λ (b : Bool). b || not (is_child_of p (t j))) (ne_eqb j i z))
    ]
      where
        still : (u j ≡ t j) ⊎ ((u j ≡ free_place) × (leads n t r (t j).parent ≡ false)) → not (is_child_of p (u j)) ≡ not (is_child_of p (t j))
        still (inl e) = ap (λ (q : Place). not (is_child_of p q)) e
        still (inr w) =
            ap (λ (q : Place). not (is_child_of p q)) w.0
            ∙ sym (ap (λ (b : Bool). not ((t j).used && b))
            (ne_eqb (t j).parent p (λ e. true≢false (sym a.parent ∙ ap (leads n t r) (sym e) ∙ w.1)))
            ∙ ap not (and-false (t j).used))

    pub left_goes : left_in n after p ≡ goes_too n t i p
    unfolding goes_too childless childless_but
    left_goes =
        ap (λ (q : Place). has_handle retired_words q && (not (is_root q) && childless n after p)) at_parent
        ∙ ap (λ (b : Bool). has_handle retired_words (t p) && (not (is_root (t p)) && b))
        (all_same (λ j. not (is_child_of p (after j))) (λ j. eqb j i || not (is_child_of p (t j))) n (λ j l. child_same j))
        ∙ turned (has_handle retired_words (t p)) (not (is_root (t p))) (childless_but n t i p)
        ∙ sym (ap (λ (b : Bool). b && (not (is_root (t p)) && (has_handle retired_words (t p) && childless_but n t i p))) (lt-ltb p n a.below))
      where
        turned : (x y z : Bool) → (x && (y && z)) ≡ (y && (x && z))
        turned true y z = refl
        turned false true z = refl
        turned false false z = refl

    -- with node i gone, its parent is the next
    pub thinned_more : (q : ℕ) → q ≤ r → Needs n t p q → Thinned after q
    thinned_more q l b =
        record {
          near = λ j w.
              let w' = leads_up n t q r j l w in
              placed_other i free_place u j (λ e. true≢false (sym w' ∙ ap (leads n t r) e ∙ a.not)) ∙ h.near j w';
          each = λ j. elim (ℕ_discrete j i) [
            | yes e ↦ inr (ap after e ∙ placed_same i free_place u, ap (λ (k : ℕ). leads n t q (t k).parent) e ∙ b.not)
            | no z ↦ elim (h.each j) [
              | inl e ↦ inl (placed_other i free_place u j z ∙ e)
              | inr w ↦ inr (placed_other i free_place u j z ∙ w.0, fewer (t j).parent w.1)
            ]
          ];
        }
      where
        fewer : (k : ℕ) → leads n t r k ≡ false → leads n t q k ≡ false
        fewer k f = go (leads n t q k) refl
          where
            go : (x : Bool) → leads n t q k ≡ x → leads n t q k ≡ false
            go true e = absurd (true≢false (sym (leads_up n t q r k l e) ∙ f))
            go false e = e
