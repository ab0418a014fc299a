-- The marks of nodes that are known to lead to the root: what a node without one, the parent of a node and one mark more say. Assumes nothing.
use mathlib.Core.Path.{◌≡◌, refl, sym, ap, ◌∙◌}
use mathlib.Core.Logic.{inl, inr}
use Prim.Native.Nat.{ℕ, zero, suc, ◌+◌, ◌-◌, ◌<◌}
use native.Mathlib.Omega.{arith}
use native.Mathlib.Decide.{ℕ_discrete}
use mathlib.Core.Bool.{Bool, true, false, ◌&&◌, true≢false}
use mathlib.Core.List.{List}
use lib.Dec.{ltb}
use lib.ListN.{get_or, set, length, length-set}
use lib.Seq.{get_or-set_same, get_or-set_other}
use Rattle.tree.specs.Tree.{Tree, is_root, leads}
use Rattle.tree.specs.Known.{Known}
use Rattle.tree.proofs.Steps.{lead_step, lead_none}
use Rattle.tree.proofs.Ways.{leads_root, leads_on, leads_cases, leads_up, enough}

-- ---- from a node to its parent and back

module _ (n : ℕ) (t : Tree) where
  pub leads_back : (i : ℕ) → i < n → (t i).parent < n → leads n t (n - 1) (t i).parent ≡ true → leads n t (n - 1) i ≡ true
  leads_back i l b h = enough n t (suc (n - 1)) i l (leads_on n t (n - 1) i b h)

  pub leads_forth : (s i : ℕ) → is_root (t i) ≡ false → leads n t s i ≡ true → ((t i).parent < n) × (leads n t s (t i).parent ≡ true)
  unfolding leads
  leads_forth zero i e h = absurd (true≢false (sym h ∙ e))
  leads_forth (suc s) i e h = elim (leads_cases n t s i h) [
    | inl r ↦ absurd (true≢false (sym r ∙ e))
    | inr p ↦ (p.0, leads_up n t s (suc s) (t i).parent (omega arith) p.1)
  ]

-- ---- marks

-- at first a mark for the root alone
pub roots_known : (n : ℕ) (t : Tree) (k : List Bool) → length k ≡ n → ((i : ℕ) → i < n → get_or k i false ≡ is_root (t i)) → Known n t k
roots_known n t k e h = record { each = e; root = λ i l r. h i l ∙ r; leading = λ i l r. leads_root n t (n - 1) i (sym (h i l) ∙ r) }

-- filled from the front, one more
pub roots_more : (t : Tree) (k : List Bool) (i : ℕ) (b : Bool) → i < length k → b ≡ is_root (t i) → ((j : ℕ) → j < i → get_or k j false ≡ is_root (t j))
    → (j : ℕ) → j < i + 1 → get_or (set k i b) j false ≡ is_root (t j)
roots_more t k i b l e h j s = elim (ℕ_discrete j i) [
  | yes z ↦ ap (λ (x : ℕ). get_or (set k i b) x false) z ∙ get_or-set_same k i b false l ∙ e ∙ ap (λ (x : ℕ). is_root (t x)) (sym z)
  | no z ↦ get_or-set_other k i j b false z ∙ h j (omega arith)
]

module _ (n : ℕ) (t : Tree) (k : List Bool) (m : Known n t k) where
  pub unmarked : (i : ℕ) → i < n → get_or k i false ≡ false → is_root (t i) ≡ false
  unmarked i l e = go (is_root (t i)) refl
    where
      go : (b : Bool) → is_root (t i) ≡ b → is_root (t i) ≡ false
      go true r = absurd (true≢false (sym (m.root i l r) ∙ e))
      go false r = r

  -- a step from a node without a mark to its parent p
  pub walk_on : (s i p : ℕ) → i < n → 0 < s → get_or k i false ≡ false → p ≡ (t i).parent → leads n t s i ≡ (ltb p n && leads n t (s - 1) p)
  walk_on s i p l b e q = lead_step n t s (s - 1) i (omega arith) ∙ rw (unmarked i l e, q)

  -- a walk from node i with no steps left, at node p: the mark there tells
  pub walk_end : (s i p : ℕ) → p < n → s ≡ 0 → leads n t (n - 1) i ≡ leads n t s p → (leads n t (n - 1) p ≡ true → leads n t (n - 1) i ≡ true)
      → get_or k p false ≡ leads n t (n - 1) i
  walk_end s i p l z h back = go (get_or k p false) refl
    where
      go : (b : Bool) → get_or k p false ≡ b → get_or k p false ≡ leads n t (n - 1) i
      go true e = e ∙ sym (back (m.leading p l e))
      go false e = e ∙ sym (h ∙ lead_none n t s p z ∙ unmarked p l e)

  pub marked : (i : ℕ) → i < n → leads n t (n - 1) i ≡ true → Known n t (set k i true)
  marked i l h =
      record {
        each = length-set k i true ∙ m.each;
        root = λ j b r. elim (ℕ_discrete j i) [
          | yes z ↦ ap (λ (x : ℕ). get_or (set k i true) x false) z ∙ here
          | no z ↦ get_or-set_other k i j true false z ∙ m.root j b r
        ];
        leading = λ j b r. elim (ℕ_discrete j i) [
          | yes z ↦ ap (λ (x : ℕ). leads n t (n - 1) x) z ∙ h
          | no z ↦ m.leading j b (sym (get_or-set_other k i j true false z) ∙ r)
        ];
      }
    where
      here : get_or (set k i true) i false ≡ true
      here = get_or-set_same k i true false (omega (arith, m.each))
