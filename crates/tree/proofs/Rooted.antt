-- A tree with its root at top, over any number n of places, and what keeps it one: another handle (`rooted_same`), and a free place that becomes a
-- node below a used one (`rooted_more`, by `enough` of Ways). Assumes nothing.
use mathlib.Core.Path.{◌≡◌, refl, sym, ap, ◌∙◌, subst}
use mathlib.Core.Logic.{◌≢◌, inl, inr}
use Prim.Native.Nat.{ℕ, zero, suc, ◌-◌, ◌<◌}
use native.Mathlib.Decide.{ℕ_discrete}
use mathlib.Core.Bool.{Bool, true, false, cond, ◌&&◌, true≢false}
use lib.Dec.{eqb}
use borrow.Author.Tests.{eq-eqb, ne_eqb}
use Rattle.layout.specs.Sizes.{root_mark, internal_flag, root_type}
use Rattle.layout.proofs.Cases.{and_left}
use Rattle.tree.specs.Tree.{Place, Tree, is_root, root_ok, leads}
use Rattle.tree.proofs.Ways.{leads_root, leads_on, leads_cases, enough}

-- ---- one place changed

abbrev pub placed : ℕ → Place → Tree → Tree
placed k p t = λ i. cond (eqb i k) p (t i)

module _ (k : ℕ) (p : Place) (t : Tree) where
  pub placed_same : placed k p t k ≡ p
  placed_same = rw (eq-eqb k k refl)

  pub placed_other : (i : ℕ) → i ≢ k → placed k p t i ≡ t i
  placed_other i z = rw (ne_eqb i k z)

-- ---- the tree

-- what the tree's shape is made of
pub record Frame : Type 0 where
  pub used : Bool
  pub parent : ℕ
  pub flags : ℕ
  pub type : ℕ

abbrev pub frame : Place → Frame
frame p = record { used = p.used; parent = p.parent; flags = p.flags; type = p.type }

pub frame_root : (p q : Place) → frame p ≡ frame q → is_root p ≡ is_root q
unfolding is_root
frame_root p q e = ap (λ (f : Frame). f.used && eqb f.parent root_mark) e

frame_kind : (p q : Place) → frame p ≡ frame q → root_ok p ≡ root_ok q
unfolding root_ok
frame_kind p q e = ap (λ (f : Frame). eqb f.flags internal_flag && eqb f.type root_type) e

pub root_used : (p : Place) → is_root p ≡ true → p.used ≡ true
unfolding is_root
root_used p h = and_left p.used (eqb p.parent root_mark) h

-- node i hangs below a used node
pub record Child (n : ℕ) (t : Tree) (i : ℕ) : Type 0 where
  pub flags : (t i).flags ≡ 0
  pub below : (t i).parent < n
  pub up : (t (t i).parent).used ≡ true

pub record Rooted (n : ℕ) (t : Tree) (top : ℕ) : Type 0 where
  pub below : top < n
  pub root : is_root (t top) ≡ true
  pub kind : root_ok (t top) ≡ true
  pub child : (i : ℕ) → i < n → (t i).used ≡ true → i ≢ top → Child n t i
  pub way : (i : ℕ) → i < n → (t i).used ≡ true → leads n t (n - 1) i ≡ true

-- ---- a way stays where nothing on it changes

module _ (n : ℕ) (t u : Tree) (S : ℕ → Type 0) (same : (i : ℕ) → S i → frame (u i) ≡ frame (t i))
    (closed : (i : ℕ) → S i → is_root (t i) ≡ false → S (t i).parent) where
  leads_kept : (s i : ℕ) → S i → leads n t s i ≡ true → leads n u s i ≡ true
  unfolding leads
  leads_kept zero i h q = frame_root (u i) (t i) (same i h) ∙ q
  leads_kept (suc s) i h q = by_root (is_root (t i)) refl (leads_kept s (t i).parent)
    where
      parents : (u i).parent ≡ (t i).parent
      parents = ap (λ (f : Frame). f.parent) (same i h)

      by_root : (b : Bool) → is_root (t i) ≡ b → (S (t i).parent → leads n t s (t i).parent ≡ true → leads n u s (t i).parent ≡ true)
          → leads n u (suc s) i ≡ true
      by_root true e on = leads_root n u (suc s) i (frame_root (u i) (t i) (same i h) ∙ e)
      by_root false e on = elim (leads_cases n t s i q) [
        | inl w ↦ absurd (true≢false (sym w ∙ e))
        | inr w ↦ leads_on n u s i (rw parents w.0) (rw parents (on (closed i h e) w.1))
      ]

-- ---- the used nodes of u are nodes of t, and so are their parents

module _ (n : ℕ) (t u : Tree) (top : ℕ) (r : Rooted n t top) (same : (i : ℕ) → i < n → (u i).used ≡ true → frame (u i) ≡ frame (t i))
    (keeps : (u top).used ≡ true) (closed : (i : ℕ) → i < n → (u i).used ≡ true → i ≢ top → (u (t i).parent).used ≡ true) where
  old : (i : ℕ) → i < n → (u i).used ≡ true → (t i).used ≡ true
  old i l h = sym (ap (λ (f : Frame). f.used) (same i l h)) ∙ h

  abbrev Stays : ℕ → Type 0
  Stays i = (i < n) × ((u i).used ≡ true)

  not_top : (i : ℕ) → is_root (t i) ≡ false → i ≢ top
  not_top i e z = true≢false (sym r.root ∙ ap (λ (j : ℕ). is_root (t j)) (sym z) ∙ e)

  pub rooted_part : Rooted n u top
  rooted_part =
      record {
        below = r.below;
        root = frame_root (u top) (t top) (same top r.below keeps) ∙ r.root;
        kind = frame_kind (u top) (t top) (same top r.below keeps) ∙ r.kind;
        child = λ i l h z.
            let e = same i l h in
            let c = r.child i l (old i l h) z in
            record {
              flags = ap (λ (f : Frame). f.flags) e ∙ c.flags;
              below = rw (ap (λ (f : Frame). f.parent) e) c.below;
              up = ap (λ (p : ℕ). (u p).used) (ap (λ (f : Frame). f.parent) e) ∙ closed i l h z;
            };
        way = λ i l h.
            leads_kept n t u Stays (λ j s. same j s.0 s.1)
            (λ j s e. ((r.child j s.0 (old j s.0 s.1) (not_top j e)).below, closed j s.0 s.1 (not_top j e)))
            (n - 1) i (l, h) (r.way i l (old i l h));
      }

-- nothing but handles and localities changes
pub rooted_same : (n : ℕ) (t u : Tree) (top : ℕ) → Rooted n t top → ((i : ℕ) → frame (u i) ≡ frame (t i)) → Rooted n u top
rooted_same n t u top r e =
    rooted_part n t u top r (λ i l h. e i) (ap (λ (f : Frame). f.used) (e top) ∙ root_used (t top) r.root)
    (λ i l h z. ap (λ (f : Frame). f.used) (e (t i).parent) ∙ (r.child i l (sym (ap (λ (f : Frame). f.used) (e i)) ∙ h) z).up)

-- ---- a free place becomes a node below a used one

module _ (n : ℕ) (t : Tree) (top : ℕ) (r : Rooted n t top) (k : ℕ) (p : Place) (l : k < n) (free : (t k).used ≡ false) (used : p.used ≡ true)
    (flags : p.flags ≡ 0)
    (below : p.parent < n) (up : (t p.parent).used ≡ true) where
  u : Tree
  u = placed k p t

  apart : (i : ℕ) → (t i).used ≡ true → i ≢ k
  apart i h z = true≢false (sym h ∙ ap (λ (j : ℕ). (t j).used) z ∙ free)

  here : u k ≡ p
  unfolding u
  here = placed_same k p t

  there : (i : ℕ) → i ≢ k → u i ≡ t i
  unfolding u
  there i z = placed_other k p t i z

  stays : (i : ℕ) → (t i).used ≡ true → (u i).used ≡ true
  stays i h = ap (λ (q : Place). q.used) (there i (apart i h)) ∙ h

  way_old : (s i : ℕ) → i < n → (t i).used ≡ true → leads n t s i ≡ true → leads n u s i ≡ true
  way_old s i b h q =
      leads_kept n t u (λ j. (j < n) × ((t j).used ≡ true)) (λ j w. ap frame (there j (apart j w.1)))
      (λ j w e. let c = r.child j w.0 w.1 (λ z. true≢false (sym r.root ∙ ap (λ (m : ℕ). is_root (t m)) (sym z) ∙ e)) in (c.below, c.up)) s i (b, h) q

  way_new : leads n u (n - 1) k ≡ true
  way_new =
      enough n u (suc (n - 1)) k l
      (leads_on n u (n - 1) k (rw here below) (rw here (way_old (n - 1) p.parent below up (r.way p.parent below up))))

  pub rooted_more : Rooted n (placed k p t) top
  unfolding u
  rooted_more =
      record {
        below = r.below;
        root = ap is_root (there top (apart top (root_used (t top) r.root))) ∙ r.root;
        kind = ap root_ok (there top (apart top (root_used (t top) r.root))) ∙ r.kind;
        child = λ i b h z. elim (ℕ_discrete i k) [
          | yes e ↦ record {
            flags = ap (λ (j : ℕ). (u j).flags) e ∙ ap (λ (q : Place). q.flags) here ∙ flags;
            below = rw (ap (λ (j : ℕ). (u j).parent) e ∙ ap (λ (q : Place). q.parent) here) below;
            up = ap (λ (j : ℕ). (u j).used) (ap (λ (j : ℕ). (u j).parent) e ∙ ap (λ (q : Place). q.parent) here) ∙ stays p.parent up;
          }
          | no e ↦
              (let same = there i e in
              let c = r.child i b (sym (ap (λ (q : Place). q.used) same) ∙ h) z in
              record {
                flags = ap (λ (q : Place). q.flags) same ∙ c.flags;
                below = rw (ap (λ (q : Place). q.parent) same) c.below;
                up = ap (λ (j : ℕ). (u j).used) (ap (λ (q : Place). q.parent) same) ∙ stays (t i).parent c.up;
              })
        ];
        way = λ i b h. elim (ℕ_discrete i k) [
          | yes e ↦ subst (λ (j : ℕ). leads n u (n - 1) j ≡ true) (sym e) way_new
          | no e ↦ (let h' = sym (ap (λ (q : Place). q.used) (there i e)) ∙ h in way_old (n - 1) i b h' (r.way i b h'))
        ];
      }
