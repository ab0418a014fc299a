-- The freed nodes are the node and each retired ancestor left childless, and no others. Assumes nothing.
use mathlib.Core.Path.{◌≡◌, refl, sym, ap, ◌∙◌, subst}
use mathlib.Core.Logic.{◌⊎◌, ◌↔◌, inl, inr}
use Prim.Native.Nat.{ℕ, zero, suc, ◌-◌, ◌<◌}
use native.Mathlib.Omega.{arith}
use native.Mathlib.Decide.{dec_lt}
use mathlib.Core.Bool.{Bool, true, false, cond, not, ◌||◌, true≢false, or-true}
use mathlib.Core.List.{List, [], ◌∷◌}
use lib.Dec.{eqb}
use borrow.Author.Tests.{eq-eqb, lt-ltb}
use Rattle.layout.specs.Below.{first_from}
use Rattle.layout.proofs.Bounded.{all_below_law, all_fails, first_there, first_lowest}
use Rattle.tree.specs.Tree.{Tree, retired_words, is_root, is_child_of, leads, childless, childless_but, goes_too, freed_within}
use Rattle.tree.specs.Statements.{In, LeftChildless, FreedExactly}
use Rattle.tree.proofs.Ways.{leads_cases}
use Rattle.tree.proofs.WellFormed.{has_used, formed_says}
use Rattle.tree.proofs.Freeing.{in_or_out, child_made, child_used, child_parent, but_at, goes_root, goes_below, goes_retired, goes_but, freed_is}

-- a node that is not childless has a child
has_child : (n : ℕ) (t : Tree) (k : ℕ) → childless n t k ≡ false
    → (first_from (λ j. is_child_of k (t j)) n 0 < n) × (is_child_of k (t (first_from (λ j. is_child_of k (t j)) n 0)) ≡ true)
unfolding childless
has_child n t k h = elim (dec_lt (first_from (λ j. is_child_of k (t j)) n 0) n) [
  | yes b ↦ (b, first_there (λ j. is_child_of k (t j)) n 0 (omega arith))
  | no b ↦ absurd (true≢false (sym (all_below_law (λ j. not (is_child_of k (t j))) n
      (λ j l. ap not (first_lowest (λ j. is_child_of k (t j)) n 0 j (omega arith) (omega arith)))) ∙ h))
]

module _ (n : ℕ) (t : Tree) where
  -- ---- each freed node but the first is an ancestor left childless

  above : (b p : ℕ) → b < n → (t b).used ≡ true → (t b).parent ≡ p → goes_too n t b p ≡ true → (freed : List ℕ) → In b freed → LeftChildless n t freed p
  unfolding childless
  above b p l u e g freed h =
      record {
        retired = goes_retired n t b p g;
        not_root = goes_root n t b p g;
        has_children = all_fails (λ j. not (is_child_of p (t j))) b n (ap not (child_made p (t b) u e)) l;
        all_freed = λ j m c.
            subst (λ (k : ℕ). In k freed) (sym (but_at n t b p (goes_but n t b p g) j m (child_used p (t j) c) (child_parent p (t j) c))) h;
      }

  freed_is_left : (s i k : ℕ) → i < n → (t i).used ≡ true → (whole : List ℕ) → ((j : ℕ) → In j (freed_within n t s i) → In j whole)
      → In k (freed_within n t s i) → (k ≡ i) ⊎ LeftChildless n t whole k
  unfolding freed_within
  freed_is_left zero i k l u whole part h = absurd h
  freed_is_left (suc s) i k l u whole part (inl e) = inl e
  freed_is_left (suc s) i k l u whole part (inr h) = inr (go (goes_too n t i (t i).parent) refl part h (freed_is_left s (t i).parent k))
    where
      go : (b : Bool) → goes_too n t i (t i).parent ≡ b → ((j : ℕ) → In j (i ∷ cond b (freed_within n t s (t i).parent) []) → In j whole)
          → In k (cond b (freed_within n t s (t i).parent) [])
          → ((t i).parent < n → (t (t i).parent).used ≡ true → (w : List ℕ) → ((j : ℕ) → In j (freed_within n t s (t i).parent) → In j w)
          → In k (freed_within n t s (t i).parent) → (k ≡ (t i).parent) ⊎ LeftChildless n t w k)
          → LeftChildless n t whole k
      go true g part h on =
          let here = above i (t i).parent l u refl g whole (part i (inl refl)) in
          elim (on (goes_below n t i (t i).parent g) (has_used retired_words (t (t i).parent) here.retired) whole (λ j w. part j (inr w)) h) [
            | inl e ↦ subst (λ (j : ℕ). LeftChildless n t whole j) (sym e) here
            | inr w ↦ w
          ]
      go false g part h on = absurd h

  -- ---- an ancestor left childless is freed

  leads_next : (s i : ℕ) → is_root (t i) ≡ false → leads n t (suc s) i ≡ true → leads n t s (t i).parent ≡ true
  leads_next s i z w = elim (leads_cases n t s i w) [ inl r ↦ absurd (true≢false (sym r ∙ z)) | inr p ↦ p.1 ]

  first_in : (s i : ℕ) → is_root (t i) ≡ false → leads n t s i ≡ true → In i (freed_within n t s i)
  unfolding leads freed_within
  first_in zero i z w = absurd (true≢false (sym w ∙ z))
  first_in (suc s) i z w = inl refl

  -- what is freed behind node i
  abbrev rest : ℕ → ℕ → List ℕ
  rest s i = cond (goes_too n t i (t i).parent) (freed_within n t s (t i).parent) []

  -- where anything is freed from node p on, p is
  front : (s p j : ℕ) (b : Bool) → In j (cond b (freed_within n t s p) []) → In p (cond b (freed_within n t s p) [])
  unfolding freed_within
  front zero p j true h = absurd h
  front (suc s) p j true h = inl refl
  front zero p j false h = absurd h
  front (suc s) p j false h = absurd h

  -- of two freed nodes, one is the other or has a parent that is freed
  freed_chain : (s i c j : ℕ) → In c (freed_within n t s i) → In j (freed_within n t s i)
      → (c ≡ j) ⊎ (In (t c).parent (freed_within n t s i) ⊎ In (t j).parent (freed_within n t s i))
  unfolding freed_within
  freed_chain zero i c j h k = absurd h
  freed_chain (suc s) i c j (inl e) (inl f) = inl (e ∙ sym f)
  freed_chain (suc s) i c j (inl e) (inr k) = inr (inl (inr (subst (λ (x : ℕ). In (t x).parent (rest s i)) (sym e) (front s (t i).parent j (goes_too n t i (t i).parent) k))))
  freed_chain (suc s) i c j (inr h) (inl f) = inr (inr (inr (subst (λ (x : ℕ). In (t x).parent (rest s i)) (sym f) (front s (t i).parent c (goes_too n t i (t i).parent) h))))
  freed_chain (suc s) i c j (inr h) (inr k) = go (goes_too n t i (t i).parent) h k (freed_chain s (t i).parent c j)
    where
      go : (b : Bool) → In c (cond b (freed_within n t s (t i).parent) []) → In j (cond b (freed_within n t s (t i).parent) [])
          → (In c (freed_within n t s (t i).parent) → In j (freed_within n t s (t i).parent)
          → (c ≡ j) ⊎ (In (t c).parent (freed_within n t s (t i).parent) ⊎ In (t j).parent (freed_within n t s (t i).parent)))
          → (c ≡ j) ⊎ (In (t c).parent (i ∷ cond b (freed_within n t s (t i).parent) []) ⊎ In (t j).parent (i ∷ cond b (freed_within n t s (t i).parent) []))
      go true h k on = elim (on h k) [ inl e ↦ inl e | inr w ↦ elim w [ inl q ↦ inr (inl (inr q)) | inr q ↦ inr (inr (inr q)) ] ]
      go false h k on = absurd h

  -- the list ends only at a node whose parent stays: its bound is never met
  freed_on : (s i c : ℕ) → is_root (t i) ≡ false → leads n t s i ≡ true → In c (freed_within n t s i)
      → In (t c).parent (freed_within n t s i) ⊎ (goes_too n t c (t c).parent ≡ false)
  unfolding freed_within
  freed_on zero i c z w h = absurd h
  freed_on (suc s) i c z w (inl e) = elim (at_first (goes_too n t i (t i).parent) refl) [
    | inl q ↦ inl (inr (subst (λ (x : ℕ). In (t x).parent (rest s i)) (sym e) q))
    | inr q ↦ inr (ap (λ (x : ℕ). goes_too n t x (t x).parent) e ∙ q)
  ]
    where
      at_first : (b : Bool) → goes_too n t i (t i).parent ≡ b → In (t i).parent (cond b (freed_within n t s (t i).parent) []) ⊎ (goes_too n t i (t i).parent ≡ false)
      at_first true g = inl (first_in s (t i).parent (goes_root n t i (t i).parent g) (leads_next s i z w))
      at_first false g = inr g
  freed_on (suc s) i c z w (inr h) = go (goes_too n t i (t i).parent) refl h (freed_on s (t i).parent c)
    where
      go : (b : Bool) → goes_too n t i (t i).parent ≡ b → In c (cond b (freed_within n t s (t i).parent) [])
          → (is_root (t (t i).parent) ≡ false → leads n t s (t i).parent ≡ true → In c (freed_within n t s (t i).parent)
          → In (t c).parent (freed_within n t s (t i).parent) ⊎ (goes_too n t c (t c).parent ≡ false))
          → In (t c).parent (i ∷ cond b (freed_within n t s (t i).parent) []) ⊎ (goes_too n t c (t c).parent ≡ false)
      go true g h on = elim (on (goes_root n t i (t i).parent g) (leads_next s i z w) h) [ inl q ↦ inl (inr q) | inr q ↦ inr q ]
      go false g h on = absurd h

  left_is_freed : (s i k : ℕ) → is_root (t i) ≡ false → leads n t s i ≡ true → k < n → LeftChildless n t (freed_within n t s i) k → In k (freed_within n t s i)
  unfolding goes_too childless_but
  left_is_freed s i k z w l a = elim (in_or_out k (freed_within n t s i)) [ inl h ↦ h | inr out ↦ absurd (stuck out) ]
    where
      c : ℕ
      c = first_from (λ j. is_child_of k (t j)) n 0

      child : (c < n) × (is_child_of k (t c) ≡ true)
      child = has_child n t k a.has_children

      -- a freed child of k has no freed parent
      no_parent : (In k (freed_within n t s i) → ⊥) → (j : ℕ) → is_child_of k (t j) ≡ true → In (t j).parent (freed_within n t s i) → ⊥
      no_parent out j h q = out (subst (λ (x : ℕ). In x (freed_within n t s i)) (child_parent k (t j) h) q)

      only : (In k (freed_within n t s i) → ⊥) → (j : ℕ) → j < n → (b : Bool) → is_child_of k (t j) ≡ b → (eqb j c || not b) ≡ true
      only out j m true h = elim (freed_chain s i c j (a.all_freed c child.0 child.1) (a.all_freed j m h)) [
        | inl e ↦ rw (eq-eqb j c (sym e))
        | inr v ↦ elim v [ inl q ↦ absurd (no_parent out c child.1 q) | inr q ↦ absurd (no_parent out j h q) ]
      ]
      only out j m false h = or-true (eqb j c)

      goes : (In k (freed_within n t s i) → ⊥) → goes_too n t c k ≡ true
      goes out =
          rw (lt-ltb k n l, a.not_root, a.retired) (all_below_law (λ j. eqb j c || not (is_child_of k (t j))) n (λ j m. only out j m (is_child_of k (t j)) refl))

      stuck : (In k (freed_within n t s i) → ⊥) → ⊥
      stuck out = elim (freed_on s i c z w (a.all_freed c child.0 child.1)) [
        | inl q ↦ no_parent out c child.1 q
        | inr q ↦ true≢false (sym (ap (goes_too n t c) (child_parent k (t c) child.1) ∙ goes out) ∙ q)
      ]

pub freed_exactly : FreedExactly
freed_exactly n t i k h l u z b =
    let w = (formed_says n t h).rooted.way i l u in
    subst (λ (freed : List ℕ). In k freed ↔ ((k ≡ i) ⊎ LeftChildless n t freed k)) (sym (freed_is n t i l)) (
      freed_is_left n t (n - 1) i k l u (freed_within n t (n - 1) i) (λ j q. q),
      λ v. elim v [
        | inl e ↦ subst (λ (j : ℕ). In j (freed_within n t (n - 1) i)) (sym e) (first_in n t (n - 1) i z w)
        | inr a ↦ left_is_freed n t (n - 1) i k z w b a
      ],
    )
