-- What a destroy frees: the way up, as far as it goes. No node that stays has a parent that goes, so what is left is well formed (`formed_freed`); the
-- freed nodes are fewer than n (`freed_few`), below n (`freed_below`) and different from each other (`freed_once`). Assumes nothing.
use mathlib.Core.Path.{◌≡◌, refl, sym, ap, ◌∙◌}
use mathlib.Core.Logic.{◌≢◌, ◌⊎◌, inl, inr}
use Prim.Native.Nat.{ℕ, zero, suc, ◌+◌, ◌-◌, ◌≤◌, ◌<◌, zero-le}
use native.Mathlib.Omega.{arith}
use native.Mathlib.Decide.{ℕ_discrete}
use mathlib.Core.Bool.{Bool, true, false, cond, not, ◌&&◌, ◌||◌, true≢false}
use mathlib.Core.List.{List, [], ◌∷◌}
use lib.Dec.{eqb, ltb}
use lib.ListN.{length, get_or}
use borrow.Author.Tests.{eq-eqb, eqb-true, lt-ltb, ltb-true}
use Rattle.layout.proofs.Bounded.{all_at}
use Rattle.layout.proofs.Cases.{and_left, and_right}
use Rattle.tree.specs.Tree.{Place, free_place, Tree, retired_words, has_handle, is_root, is_child_of, leads, childless, childless_but, goes_too, freed_within, freed_by}
use Rattle.tree.specs.Statements.{In}
use Rattle.tree.proofs.Ways.{leads_on, leads_cases}
use Rattle.tree.proofs.Marks.{leads_forth}
use Rattle.tree.proofs.Rooted.{placed, placed_same, placed_other, frame, root_used, Rooted, rooted_part}
use Rattle.tree.proofs.Apart.{apart_part}
use Rattle.tree.proofs.WellFormed.{Formed, has_used}

-- no number of a list stands in it twice
abbrev pub Once : List ℕ → Type 0
Once [] = Unit {0}
Once (k ∷ ks) = (In k ks → ⊥) × Once ks

-- ---- places freed, one after another

abbrev pub cleared : List ℕ → Tree → Tree
cleared [] t = t
cleared (k ∷ ks) t = cleared ks (placed k free_place t)

pub in_or_out : (j : ℕ) (ks : List ℕ) → In j ks ⊎ (In j ks → ⊥)
in_or_out j [] = inr (λ h. h)
in_or_out j (k ∷ ks) = elim (ℕ_discrete j k) [
  | yes e ↦ inl (inl e)
  | no z ↦ elim (in_or_out j ks) [ inl h ↦ inl (inr h) | inr h ↦ inr (λ w. elim w [ inl e ↦ z e | inr v ↦ h v ]) ]
]

-- the numbers of a list by their index
pub in_at : (ks : List ℕ) (j : ℕ) → j < length ks → In (get_or ks j 0) ks
in_at [] j l = absurd (omega arith)
in_at (k ∷ ks) zero l = inl refl
in_at (k ∷ ks) (suc j) l = inr (in_at ks j (omega arith))

free_stays : (k : ℕ) (t : Tree) (j : ℕ) → t j ≡ free_place → placed k free_place t j ≡ free_place
free_stays k t j e = elim (ℕ_discrete j k) [
  | yes z ↦ ap (placed k free_place t) z ∙ placed_same k free_place t
  | no z ↦ placed_other k free_place t j z ∙ e
]

clear_free : (ks : List ℕ) (t : Tree) (j : ℕ) → t j ≡ free_place → cleared ks t j ≡ free_place
clear_free [] t j e = e
clear_free (k ∷ ks) t j e = clear_free ks (placed k free_place t) j (free_stays k t j e)

pub clear_in : (ks : List ℕ) (t : Tree) (j : ℕ) → In j ks → cleared ks t j ≡ free_place
clear_in [] t j h = absurd h
clear_in (k ∷ ks) t j (inl e) = clear_free ks (placed k free_place t) j (ap (placed k free_place t) e ∙ placed_same k free_place t)
clear_in (k ∷ ks) t j (inr h) = clear_in ks (placed k free_place t) j h

pub clear_out : (ks : List ℕ) (t : Tree) (j : ℕ) → (In j ks → ⊥) → cleared ks t j ≡ t j
clear_out [] t j h = refl
clear_out (k ∷ ks) t j h = clear_out ks (placed k free_place t) j (λ w. h (inr w)) ∙ placed_other k free_place t j (λ e. h (inl e))

-- ---- children

pub child_made : (i : ℕ) (p : Place) → p.used ≡ true → p.parent ≡ i → is_child_of i p ≡ true
unfolding is_child_of
child_made i p u e = ap (λ (b : Bool). b && eqb p.parent i) u ∙ eq-eqb p.parent i e

module _ (i : ℕ) (p : Place) (h : is_child_of i p ≡ true) where
  pub child_used : p.used ≡ true
  unfolding is_child_of
  child_used = and_left p.used (eqb p.parent i) h

  pub child_parent : p.parent ≡ i
  unfolding is_child_of
  child_parent = eqb-true p.parent i (and_right p.used (eqb p.parent i) h)

no_child : (i : ℕ) (p : Place) → not (is_child_of i p) ≡ true → p.used ≡ true → p.parent ≢ i
no_child i p h u e = true≢false (sym h ∙ ap not (child_made i p u e))

module _ (n : ℕ) (t : Tree) where
  pub childless_at : (i : ℕ) → childless n t i ≡ true → (j : ℕ) → j < n → (t j).used ≡ true → (t j).parent ≢ i
  unfolding childless
  childless_at i h j l u = no_child i (t j) (all_at (λ j. not (is_child_of i (t j))) n j h l) u

  pub but_at : (b i : ℕ) → childless_but n t b i ≡ true → (j : ℕ) → j < n → (t j).used ≡ true → (t j).parent ≡ i → j ≡ b
  unfolding childless_but
  but_at b i h j l u e = go (eqb j b) refl (all_at (λ j. eqb j b || not (is_child_of i (t j))) n j h l)
    where
      go : (x : Bool) → eqb j b ≡ x → (x || not (is_child_of i (t j))) ≡ true → j ≡ b
      go true q w = eqb-true j b q
      go false q w = absurd (no_child i (t j) w u e)

  -- ---- the tests of the next node up

  module _ (b p : ℕ) (h : goes_too n t b p ≡ true) where
    goes_tests : (ltb p n && (not (is_root (t p)) && (has_handle retired_words (t p) && childless_but n t b p))) ≡ true
    unfolding goes_too
    goes_tests = h

    goes_late : (has_handle retired_words (t p) && childless_but n t b p) ≡ true
    goes_late =
        and_right (not (is_root (t p))) (has_handle retired_words (t p) && childless_but n t b p)
        (and_right (ltb p n) (not (is_root (t p)) && (has_handle retired_words (t p) && childless_but n t b p)) goes_tests)

    pub goes_root : is_root (t p) ≡ false
    goes_root =
        negated (is_root (t p))
        (and_left (not (is_root (t p))) (has_handle retired_words (t p) && childless_but n t b p)
        (and_right (ltb p n) (not (is_root (t p)) && (has_handle retired_words (t p) && childless_but n t b p)) goes_tests))
      where
        negated : (x : Bool) → not x ≡ true → x ≡ false
        negated true q = sym q
        negated false q = refl

    pub goes_below : p < n
    goes_below = ltb-true p n (and_left (ltb p n) (not (is_root (t p)) && (has_handle retired_words (t p) && childless_but n t b p)) goes_tests)

    pub goes_retired : has_handle retired_words (t p) ≡ true
    goes_retired = and_left (has_handle retired_words (t p)) (childless_but n t b p) goes_late

    pub goes_but : childless_but n t b p ≡ true
    goes_but = and_right (has_handle retired_words (t p)) (childless_but n t b p) goes_late

  -- ---- the freed nodes

  freed_number : (s i : ℕ) → length (freed_within n t s i) ≤ s
  unfolding freed_within
  freed_number zero i = zero-le
  freed_number (suc s) i = go (goes_too n t i (t i).parent) (freed_number s (t i).parent)
    where
      go : (b : Bool) → length (freed_within n t s (t i).parent) ≤ s → suc (length (cond b (freed_within n t s (t i).parent) [])) ≤ suc s
      go true h = omega arith
      go false h = omega arith

  pub freed_is : (i : ℕ) → i < n → freed_by n t i ≡ freed_within n t (n - 1) i
  unfolding freed_by
  freed_is i l = rw (lt-ltb i n l)

  -- fewer than n
  pub freed_few : (i : ℕ) → i < n → length (freed_by n t i) < n
  freed_few i l = rw (freed_is i l) (omega (arith, freed_number (n - 1) i))

  within_below : (s i j : ℕ) → i < n → In j (freed_within n t s i) → j < n
  unfolding freed_within
  within_below zero i j l h = absurd h
  within_below (suc s) i j l (inl e) = rw e l
  within_below (suc s) i j l (inr h) = go (goes_too n t i (t i).parent) refl h (within_below s (t i).parent j)
    where
      go : (b : Bool) → goes_too n t i (t i).parent ≡ b → In j (cond b (freed_within n t s (t i).parent) [])
          → ((t i).parent < n → In j (freed_within n t s (t i).parent) → j < n) → j < n
      go true e w on = on (goes_below i (t i).parent e) w
      go false e w on = absurd w

  -- each is below n
  pub freed_below : (i j : ℕ) → i < n → In j (freed_by n t i) → j < n
  freed_below i j l h = within_below (n - 1) i j l (rw (freed_is i l) at h)

  -- a child of a freed node goes, except of the first
  pub freed_child : (s i j : ℕ) → j < n → (t j).used ≡ true → In (t j).parent (freed_within n t s i) → ((t j).parent ≡ i) ⊎ In j (freed_within n t s i)
  unfolding freed_within
  freed_child zero i j l u h = absurd h
  freed_child (suc s) i j l u (inl e) = inl e
  freed_child (suc s) i j l u (inr h) = inr (go (goes_too n t i (t i).parent) refl h (freed_child s (t i).parent j l u))
    where
      go : (b : Bool) → goes_too n t i (t i).parent ≡ b → In (t j).parent (cond b (freed_within n t s (t i).parent) [])
          → (In (t j).parent (freed_within n t s (t i).parent) → ((t j).parent ≡ (t i).parent) ⊎ In j (freed_within n t s (t i).parent))
          → (j ≡ i) ⊎ In j (cond b (freed_within n t s (t i).parent) [])
      go true e w on = elim (on w) [ inl q ↦ inl (but_at i (t i).parent (goes_but i (t i).parent e) j l u q) | inr q ↦ inr q ]
      go false e w on = absurd w

  -- none is the root, and each is used
  pub freed_each : (s i j : ℕ) → is_root (t i) ≡ false → (t i).used ≡ true → In j (freed_within n t s i) → (is_root (t j) ≡ false) × ((t j).used ≡ true)
  unfolding freed_within
  freed_each zero i j z u h = absurd h
  freed_each (suc s) i j z u (inl e) = (ap (λ (k : ℕ). is_root (t k)) e ∙ z, ap (λ (k : ℕ). (t k).used) e ∙ u)
  freed_each (suc s) i j z u (inr h) = go (goes_too n t i (t i).parent) refl h (freed_each s (t i).parent j)
    where
      go : (b : Bool) → goes_too n t i (t i).parent ≡ b → In j (cond b (freed_within n t s (t i).parent) [])
          → (is_root (t (t i).parent) ≡ false → (t (t i).parent).used ≡ true → In j (freed_within n t s (t i).parent) → (is_root (t j) ≡ false) × ((t j).used ≡ true))
          → (is_root (t j) ≡ false) × ((t j).used ≡ true)
      go true e w on =
          on (goes_root i (t i).parent e) (has_used retired_words (t (t i).parent) (goes_retired i (t i).parent e)) w
      go false e w on = absurd w

  -- ---- where the parents lead to the root, none is freed twice

  -- what is freed leads to the root in as few steps as the first node
  freed_leads : (s i j r : ℕ) → is_root (t i) ≡ false → leads n t r i ≡ true → In j (freed_within n t s i) → leads n t r j ≡ true
  unfolding freed_within
  freed_leads zero i j r z w h = absurd h
  freed_leads (suc s) i j r z w (inl e) = ap (leads n t r) e ∙ w
  freed_leads (suc s) i j r z w (inr h) = go (goes_too n t i (t i).parent) refl h (freed_leads s (t i).parent j r)
    where
      go : (b : Bool) → goes_too n t i (t i).parent ≡ b → In j (cond b (freed_within n t s (t i).parent) [])
          → (is_root (t (t i).parent) ≡ false → leads n t r (t i).parent ≡ true → In j (freed_within n t s (t i).parent) → leads n t r j ≡ true)
          → leads n t r j ≡ true
      go true e q on = on (goes_root i (t i).parent e) (leads_forth n t r i z w).1 q
      go false e q on = absurd q

-- a node that is not the root needs just r + 1 steps to it
pub record Needs (n : ℕ) (t : Tree) (i r : ℕ) : Type 0 where
  pub below : (t i).parent < n
  pub parent : leads n t r (t i).parent ≡ true
  pub not : leads n t r i ≡ false

pub record Least (n : ℕ) (t : Tree) (i : ℕ) : Type 0 where
  pub steps : ℕ
  pub needs : Needs n t i steps

module _ (n : ℕ) (t : Tree) where
  pub least : (s i : ℕ) → is_root (t i) ≡ false → leads n t s i ≡ true → Least n t i
  unfolding leads
  least zero i z w = absurd (true≢false (sym w ∙ z))
  least (suc s) i z w = go (leads n t s i) refl (least s i z)
    where
      go : (b : Bool) → leads n t s i ≡ b → (leads n t s i ≡ true → Least n t i) → Least n t i
      go true e on = on e
      go false e on = elim (leads_cases n t s i w) [
        | inl r ↦ absurd (true≢false (sym r ∙ z))
        | inr p ↦ record { steps = s; needs = record { below = p.0; parent = p.1; not = e } }
      ]

  -- its parent needs one step less
  pub needs_none : (i : ℕ) → Needs n t i 0 → is_root (t (t i).parent) ≡ true
  unfolding leads
  needs_none i a = a.parent

  pub needs_up : (i r : ℕ) → is_root (t (t i).parent) ≡ false → Needs n t i (suc r) → Needs n t (t i).parent r
  needs_up i r z a = elim (leads_cases n t r (t i).parent a.parent) [
    | inl q ↦ absurd (true≢false (sym q ∙ z))
    | inr p ↦ record { below = p.0; parent = p.1; not = go (leads n t r (t i).parent) refl }
  ]
    where
      go : (x : Bool) → leads n t r (t i).parent ≡ x → leads n t r (t i).parent ≡ false
      go true e = absurd (true≢false (sym (leads_on n t r i a.below e) ∙ a.not))
      go false e = e

  within_once : (s i r : ℕ) → is_root (t i) ≡ false → leads n t r i ≡ true → Once (freed_within n t s i)
  unfolding freed_within
  within_once zero i r z w = tt
  within_once (suc s) i r z w = go (goes_too n t i (t i).parent) refl (within_once s (t i).parent r)
    where
      go : (b : Bool) → goes_too n t i (t i).parent ≡ b
          → (is_root (t (t i).parent) ≡ false → leads n t r (t i).parent ≡ true → Once (freed_within n t s (t i).parent))
          → (In i (cond b (freed_within n t s (t i).parent) []) → ⊥) × Once (cond b (freed_within n t s (t i).parent) [])
      go true e on =
          let a = least r i z w in (
            λ h. true≢false (sym (freed_leads n t s (t i).parent i a.steps (goes_root n t i (t i).parent e) a.needs.parent h) ∙ a.needs.not),
            on (goes_root n t i (t i).parent e) (leads_forth n t r i z w).1,
          )
      go false e on = (λ h. h, tt)

  module _ (top : ℕ) (r : Rooted n t top) (i : ℕ) (l : i < n) (u : (t i).used ≡ true) (z : is_root (t i) ≡ false) where
    -- no two are the same
    pub freed_once : Once (freed_by n t i)
    freed_once = rw (freed_is n t i l) (within_once (n - 1) i (n - 1) z (r.way i l u))

    -- ---- what is left is a tree, and well formed

    away : (j : ℕ) → In j (freed_by n t i) → j ≢ top
    away j h e =
        true≢false (sym r.root ∙ ap (λ (k : ℕ). is_root (t k)) (sym e) ∙ (freed_each n t (n - 1) i j z u (rw (freed_is n t i l) at h)).0)

    stays : (j : ℕ) → (cleared (freed_by n t i) t j).used ≡ true → In j (freed_by n t i) → ⊥
    stays j h w = true≢false (sym h ∙ ap (λ (p : Place). p.used) (clear_in (freed_by n t i) t j w))

    pub kept_place : (j : ℕ) → (cleared (freed_by n t i) t j).used ≡ true → cleared (freed_by n t i) t j ≡ t j
    kept_place j h = clear_out (freed_by n t i) t j (stays j h)

    pub rooted_freed : childless n t i ≡ true → Rooted n (cleared (freed_by n t i) t) top
    rooted_freed alone =
        rooted_part n t (cleared (freed_by n t i) t) top r (λ j b h. ap frame (kept_place j h))
        (ap (λ (p : Place). p.used) (clear_out (freed_by n t i) t top (λ w. away top w refl)) ∙ root_used (t top) r.root)
        (λ j b h q.
        let e : (t j).used ≡ true = sym (ap (λ (p : Place). p.used) (kept_place j h)) ∙ h in
        ap (λ (p : Place). p.used)
        (clear_out (freed_by n t i) t (t j).parent (λ w. elim (freed_child n t (n - 1) i j b e (rw (freed_is n t i l) at w)) [
          | inl v ↦ childless_at n t i alone j b e v
          | inr v ↦ stays j h (rw (freed_is n t i l) v)
        ]))
        ∙ (r.child j b e q).up)

-- a destroy keeps any well-formed tree well formed
pub formed_freed : (n : ℕ) (t : Tree) (top : ℕ) → Formed n t top → (i : ℕ) → i < n → (t i).used ≡ true → is_root (t i) ≡ false → childless n t i ≡ true
    → Formed n (cleared (freed_by n t i) t) top
formed_freed n t top f i l u z alone =
    record {
      rooted = rooted_freed n t top f.rooted i l u z alone;
      apart = apart_part n t (cleared (freed_by n t i) t) (kept_place n t top f.rooted i l u z) f.apart;
      blank = λ j b v. elim (in_or_out j (freed_by n t i)) [
        | inl w ↦ ap (λ (p : Place). p.blank) (clear_in (freed_by n t i) t j w)
        | inr w ↦ ap (λ (p : Place). p.blank) (clear_out (freed_by n t i) t j w)
            ∙ f.blank j b (sym (ap (λ (p : Place). p.used) (clear_out (freed_by n t i) t j w)) ∙ v)
      ];
    }

-- ---- the bound on the number is never met: the root is reached before

module _ (n : ℕ) (t : Tree) where
  freed_more : (s d i : ℕ) → is_root (t i) ≡ false → leads n t s i ≡ true → freed_within n t (s + d) i ≡ freed_within n t s i
  unfolding freed_within leads
  freed_more zero d i z h = absurd (true≢false (sym h ∙ z))
  freed_more (suc s) d i z h = elim (leads_cases n t s i h) [
    | inl w ↦ absurd (true≢false (sym w ∙ z))
    | inr w ↦ rw (plus s d) (ap (λ (r : List ℕ). i ∷ r) (go (goes_too n t i (t i).parent) refl (λ q. freed_more s d (t i).parent q w.1)))
  ]
    where
      plus : (s d : ℕ) → suc s + d ≡ suc (s + d)
      plus s d = omega arith

      go : (b : Bool) → goes_too n t i (t i).parent ≡ b → (is_root (t (t i).parent) ≡ false → freed_within n t (s + d) (t i).parent ≡ freed_within n t s (t i).parent)
          → cond b (freed_within n t (s + d) (t i).parent) [] ≡ cond b (freed_within n t s (t i).parent) []
      go true e on = on (goes_root n t i (t i).parent e)
      go false e on = refl

  module _ (top : ℕ) (r : Rooted n t top) (i : ℕ) (l : i < n) (u : (t i).used ≡ true) (z : is_root (t i) ≡ false) where
    -- any bound from n - 1 on gives the same
    pub freed_bound : (s : ℕ) → n - 1 ≤ s → freed_within n t s i ≡ freed_by n t i
    freed_bound s b =
        let e : s ≡ n - 1 + (s - (n - 1)) = omega arith in
        ap (λ (x : ℕ). freed_within n t x i) e ∙ freed_more (n - 1) (s - (n - 1)) i z (r.way i l u) ∙ sym (freed_is n t i l)

    -- the freed nodes, with no bound: the node, and its parent's where that goes too
    pub freed_steps : freed_by n t i ≡ i ∷ cond (goes_too n t i (t i).parent) (freed_by n t (t i).parent) []
    unfolding freed_within
    freed_steps =
        let not_top : i ≢ top = λ q. true≢false (sym r.root ∙ ap (λ (k : ℕ). is_root (t k)) (sym q) ∙ z) in
        sym (freed_bound (suc (n - 1)) (omega arith)) ∙ rw (freed_is n t (t i).parent (r.child i l u not_top).below)
