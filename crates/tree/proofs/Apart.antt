-- Distinct live handles: the test by a search, and what keeps them distinct: a node that is retired, one that gets a handle that no other has, and one that
-- goes. Assumes nothing.
use mathlib.Core.Path.{◌≡◌, refl, sym, ap, ◌∙◌}
use mathlib.Core.Logic.{◌≢◌}
use Prim.Native.Nat.{ℕ, ◌<◌}
use native.Mathlib.Omega.{arith}
use native.Mathlib.Decide.{ℕ_discrete, dec_lt}
use mathlib.Core.Bool.{Bool, true, false, not, ◌&&◌, true≢false}
use mathlib.Core.List.{List}
use lib.Dec.{eqb}
use borrow.Author.Tests.{eq-eqb, ne_eqb}
use Rattle.layout.specs.Below.{all_below, first_below, first_from}
use Rattle.layout.proofs.Bounded.{all_same, all_below_law, all_fails, first_le, first_there, first_lowest}
use Rattle.tree.specs.Tree.{Place, Tree, same_handle, has_handle, retired_words, clash, apart_below}
use Rattle.tree.proofs.Handles.{same_refl, same_sym}
use Rattle.tree.proofs.Rooted.{placed, placed_same, placed_other}

-- ---- the test of one node, as the code makes it

none_first : (p : ℕ → Bool) (n : ℕ) → all_below n (λ j. not (p j)) ≡ eqb (first_below n p) n
none_first p n = elim (dec_lt (first_from p n 0) n) [
  | yes b ↦ all_fails (λ j. not (p j)) (first_from p n 0) n (ap not (first_there p n 0 (omega arith))) b
      ∙ sym (ne_eqb (first_from p n 0) n (λ (e : first_from p n 0 ≡ n). omega arith))
  | no b ↦ (let e : first_from p n 0 ≡ n = omega (arith, first_le p n 0) in
      all_below_law (λ j. not (p j)) n (λ j l. ap not (first_lowest p n 0 j (omega arith) (omega arith))) ∙ sym (eq-eqb (first_from p n 0) n e))
]

module _ (t : Tree) (i : ℕ) where
  pub apart_free : (t i).used ≡ false → apart_below t i ≡ true
  unfolding apart_below clash
  apart_free e = all_below_law (λ j. not (clash t i j)) i (λ j l. rw e)

  pub apart_retired : has_handle retired_words (t i) ≡ true → apart_below t i ≡ true
  unfolding apart_below clash has_handle
  apart_retired h =
      all_below_law (λ j. not (clash t i j)) i (λ j l. go (t i).used (t j).used (same_handle (t i).handle retired_words) (same_handle (t i).handle (t j).handle) h)
    where
      go : (a b c d : Bool) → (a && c) ≡ true → not (a && (b && (not c && d))) ≡ true
      go false b c d q = refl
      go true false c d q = refl
      go true true c d q = rw q

  pub apart_search : (t i).used ≡ true → has_handle retired_words (t i) ≡ false → eqb (first_below i (λ j. has_handle (t i).handle (t j))) i ≡ apart_below t i
  unfolding apart_below clash has_handle
  apart_search u h =
      sym (all_same (λ j. not (clash t i j)) (λ j. not (has_handle (t i).handle (t j))) i
      (λ j l. ap not (go (t i).used (t j).used (same_handle (t i).handle retired_words) _ _ u h (same_sym (t i).handle (t j).handle)))
      ∙ none_first (λ j. has_handle (t i).handle (t j)) i)
    where
      go : (a b c d e : Bool) → a ≡ true → (a && c) ≡ false → d ≡ e → (a && (b && (not c && d))) ≡ (b && e)
      go false b c d e q r s = absurd (true≢false (sym q))
      go true b true d e q r s = absurd (true≢false r)
      go true b false d e q r s = ap (λ (x : Bool). b && x) s

-- ---- no two used nodes with one live handle

abbrev pub Apart : ℕ → Tree → Type 0
Apart n t = (i j : ℕ) → i < n → j < n → i ≢ j → (t i).used ≡ true → (t j).used ≡ true → same_handle (t i).handle retired_words ≡ false
    → same_handle (t i).handle (t j).handle ≡ false

-- the nodes of u are nodes of t with their handles
pub apart_part : (n : ℕ) (t u : Tree) → ((i : ℕ) → (u i).used ≡ true → u i ≡ t i) → Apart n t → Apart n u
apart_part n t u same a i j l m z p q live =
    let e = same i p in
    let f = same j q in
    ap (λ (x : Place). same_handle x.handle (u j).handle) e
    ∙ ap (λ (x : Place). same_handle (t i).handle x.handle) f
    ∙ a i j l m z (sym (ap (λ (x : Place). x.used) e) ∙ p) (sym (ap (λ (x : Place). x.used) f) ∙ q)
    (sym (ap (λ (x : Place). same_handle x.handle retired_words) e) ∙ live)

-- place k gets a handle that no other used node has, or the retired one
module _ (n : ℕ) (t : Tree) (a : Apart n t) (k : ℕ) (p : Place)
    (fresh : (i : ℕ) → i < n → i ≢ k → (t i).used ≡ true → same_handle (t i).handle retired_words ≡ false → same_handle (t i).handle p.handle ≡ false)
    (back : same_handle p.handle retired_words ≡ false → (i : ℕ) → i < n → i ≢ k → (t i).used ≡ true → same_handle p.handle (t i).handle ≡ false) where
  pub apart_put : Apart n (placed k p t)
  apart_put i j l m z = elim (ℕ_discrete i k) [
    | yes e ↦ (λ x y live.
        let j≢ : j ≢ k = λ w. z (e ∙ sym w) in
        let here : placed k p t i ≡ p = ap (placed k p t) e ∙ placed_same k p t in
        let there : placed k p t j ≡ t j = placed_other k p t j j≢ in
        ap (λ (q : Place). same_handle q.handle (placed k p t j).handle) here
        ∙ ap (λ (q : Place). same_handle p.handle q.handle) there
        ∙ back (sym (ap (λ (q : Place). same_handle q.handle retired_words) here) ∙ live) j m j≢ (sym (ap (λ (q : Place). q.used) there) ∙ y))
    | no e ↦ elim (ℕ_discrete j k) [
      | yes f ↦ (λ x y live.
          let here : placed k p t j ≡ p = ap (placed k p t) f ∙ placed_same k p t in
          let there : placed k p t i ≡ t i = placed_other k p t i e in
          ap (λ (q : Place). same_handle q.handle (placed k p t j).handle) there
          ∙ ap (λ (q : Place). same_handle (t i).handle q.handle) here
          ∙ fresh i l e (sym (ap (λ (q : Place). q.used) there) ∙ x) (sym (ap (λ (q : Place). same_handle q.handle retired_words) there) ∙ live))
      | no f ↦ (λ x y live.
          let there : placed k p t i ≡ t i = placed_other k p t i e in
          let here : placed k p t j ≡ t j = placed_other k p t j f in
          ap (λ (q : Place). same_handle q.handle (placed k p t j).handle) there
          ∙ ap (λ (q : Place). same_handle (t i).handle q.handle) here
          ∙ a i j l m z (sym (ap (λ (q : Place). q.used) there) ∙ x) (sym (ap (λ (q : Place). q.used) here) ∙ y)
          (sym (ap (λ (q : Place). same_handle q.handle retired_words) there) ∙ live))
    ]
  ]

pub apart_retire : (n : ℕ) (t : Tree) (k : ℕ) (p : Place) → Apart n t → p.handle ≡ retired_words → Apart n (placed k p t)
apart_retire n t k p a e =
    apart_put n t a k p
    (λ i l z h live. ap (same_handle (t i).handle) e ∙ live)
    (λ live. absurd (true≢false (sym (ap (λ (h : List ℕ). same_handle h retired_words) e ∙ same_refl retired_words) ∙ live)))

pub apart_fresh : (n : ℕ) (t : Tree) (k : ℕ) (p : Place) → Apart n t
    → ((i : ℕ) → i < n → i ≢ k → (t i).used ≡ true → same_handle (t i).handle p.handle ≡ false) → Apart n (placed k p t)
apart_fresh n t k p a f =
    apart_put n t a k p (λ i l z h live. f i l z h) (λ live i l z h. same_sym p.handle (t i).handle ∙ f i l z h)
