-- Ways to the root, over any number n of places: where the parents lead to the root at all, they do so in at most n - 1 steps, since a way that needs
-- s steps passes s + 1 nodes. Assumes nothing.
use mathlib.Core.Path.{◌≡◌, refl, sym, ◌∙◌}
use mathlib.Core.Logic.{◌⊎◌, inl, inr}
use Prim.Native.Nat.{ℕ, zero, suc, ◌+◌, ◌-◌, ◌≤◌, ◌<◌}
use native.Mathlib.Omega.{arith}
use mathlib.Core.Bool.{Bool, true, false, ◌&&◌, ◌||◌, true≢false, or-true}
use lib.Dec.{ltb}
use borrow.Author.Tests.{lt-ltb, ltb-true}
use Rattle.layout.specs.Below.{count_below}
use Rattle.layout.proofs.Bounded.{has_counted, count_most, count_less}
use Rattle.layout.proofs.Cases.{and_left, and_right}
use Rattle.tree.specs.Tree.{Tree, is_root, leads}

-- ---- one step

module _ (n : ℕ) (t : Tree) where
  pub leads_root : (s i : ℕ) → is_root (t i) ≡ true → leads n t s i ≡ true
  unfolding leads
  leads_root zero i h = h
  leads_root (suc s) i h = rw h

  pub leads_on : (s i : ℕ) → (t i).parent < n → leads n t s (t i).parent ≡ true → leads n t (suc s) i ≡ true
  unfolding leads
  leads_on s i l h = rw (lt-ltb (t i).parent n l, h) (or-true (is_root (t i)))

  pub leads_cases : (s i : ℕ) → leads n t (suc s) i ≡ true → (is_root (t i) ≡ true) ⊎ (((t i).parent < n) × (leads n t s (t i).parent ≡ true))
  unfolding leads
  leads_cases s i h = go (is_root (t i)) refl h
    where
      go : (b : Bool) → is_root (t i) ≡ b → (b || (ltb (t i).parent n && leads n t s (t i).parent)) ≡ true
          → (is_root (t i) ≡ true) ⊎ (((t i).parent < n) × (leads n t s (t i).parent ≡ true))
      go true e q = inl e
      go false e q =
          inr (
            ltb-true (t i).parent n (and_left (ltb (t i).parent n) (leads n t s (t i).parent) q),
            and_right (ltb (t i).parent n) (leads n t s (t i).parent) q,
          )

  pub leads_more : (s i : ℕ) → leads n t s i ≡ true → leads n t (suc s) i ≡ true
  leads_more zero i h = leads_root 1 i (unfold leads in h)
  leads_more (suc s) i h = elim (leads_cases s i h) [
    | inl r ↦ leads_root (suc (suc s)) i r
    | inr p ↦ leads_on (suc s) i p.0 (leads_more s (t i).parent p.1)
  ]

  leads_within : (d s i : ℕ) → leads n t s i ≡ true → leads n t (d + s) i ≡ true
  leads_within zero s i h = rw (zero_plus s) h
    where
      zero_plus : (s : ℕ) → 0 + s ≡ s
      zero_plus s = omega arith
  leads_within (suc d) s i h = rw (more d s) (leads_more (d + s) i (leads_within d s i h))
    where
      more : (d s : ℕ) → suc d + s ≡ suc (d + s)
      more d s = omega arith

  pub leads_up : (s r i : ℕ) → s ≤ r → leads n t s i ≡ true → leads n t r i ≡ true
  leads_up s r i l h = let e : r ≡ (r - s) + s = omega arith in rw e (leads_within (r - s) s i h)

  -- ---- a way of just s steps passes s + 1 nodes: for each number of steps up to s there is a node that needs it

  abbrev NotSooner : ℕ → ℕ → Type 0
  NotSooner zero i = Unit {0}
  NotSooner (suc s) i = leads n t s i ≡ false

  passes : (s i : ℕ) → i < n → leads n t s i ≡ true → NotSooner s i → s < count_below n (leads n t s)
  passes zero i l h e = has_counted (leads n t 0) n i l h
  passes (suc s) i l h e = elim (leads_cases s i h) [
    | inl r ↦ absurd (true≢false (sym (leads_root s i r) ∙ e))
    | inr p ↦
        (let b : s < count_below n (leads n t s) = passes s (t i).parent p.0 p.1 (sooner s p.0 e) in
        omega (arith, count_less (leads n t s) (leads n t (suc s)) n i l (leads_more s) e h))
  ]
    where
      sooner : (r : ℕ) → (t i).parent < n → leads n t r i ≡ false → NotSooner r (t i).parent
      sooner zero b q = tt
      sooner (suc r) b q = go (leads n t r (t i).parent) refl
        where
          go : (x : Bool) → leads n t r (t i).parent ≡ x → leads n t r (t i).parent ≡ false
          go true w = absurd (true≢false (sym (leads_on r i b w) ∙ q))
          go false w = w

  -- n - 1 steps are enough
  pub enough : (s i : ℕ) → i < n → leads n t s i ≡ true → leads n t (n - 1) i ≡ true
  enough zero i l h = leads_up 0 (n - 1) i (omega arith) h
  enough (suc s) i l h = go (leads n t s i) refl (enough s i l)
    where
      go : (x : Bool) → leads n t s i ≡ x → (leads n t s i ≡ true → leads n t (n - 1) i ≡ true) → leads n t (n - 1) i ≡ true
      go true e on = on e
      go false e on = leads_up (suc s) (n - 1) i (omega (arith, passes (suc s) i l h e, count_most (leads n t (suc s)) n)) h
