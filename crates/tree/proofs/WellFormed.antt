-- Well formed, as facts: that they are what the test says, both ways, and what keeps them, for any number n of places up to the root's mark. A node that is
-- retired (`formed_retired`), one that gets a handle of its own (`formed_rotated`), a free place that becomes a node (`formed_more`), and a stash on any
-- well-formed tree with a holder and a free place (`stash_keeps`) leave one: the order in which nodes came plays no part. Assumes nothing.
use mathlib.Core.Path.{◌≡◌, refl, sym, ap, ◌∙◌, subst}
use mathlib.Core.Logic.{◌≢◌}
use Prim.Native.Nat.{ℕ, ◌-◌, ◌≤◌, ◌<◌}
use native.Mathlib.Omega.{arith}
use native.Mathlib.Decide.{ℕ_discrete, dec_lt}
use mathlib.Core.Bool.{Bool, true, false, cond, not, ◌&&◌, true≢false}
use mathlib.Core.List.{List}
use lib.Dec.{eqb, ltb}
use lib.ListN.{get_or}
use borrow.Author.Tests.{ne_eqb, lt-ltb, eqb-true, ltb-true}
use Rattle.layout.specs.Sizes.{handle_words, root_mark, retired_word}
use Rattle.layout.specs.Below.{all_below, count_below}
use Rattle.layout.proofs.Bounded.{all_at, all_fails, all_below_law, count_only, counted_found, first_there, first_lowest, found_only, and-false}
use Rattle.layout.proofs.Cases.{and_left, and_right}
use Rattle.tree.specs.Tree.{Place, Tree, default_words, retired_words, same_handle, has_handle, is_root, root_ok, child_ok, place_ok, clash, apart_below, leads, leads_if_used, well_formed, root_in, node_with, lowest_free}
use Rattle.tree.proofs.Handles.{same_refl, same_sym, same_trans}
use Rattle.tree.proofs.Rooted.{placed, placed_same, placed_other, Frame, frame, root_used, Child, Rooted, rooted_same, rooted_more}
use Rattle.tree.proofs.Apart.{Apart, apart_retire, apart_fresh}

pub record Formed (n : ℕ) (t : Tree) (top : ℕ) : Type 0 where
  pub rooted : Rooted n t top
  pub apart : Apart n t
  pub blank : (i : ℕ) → i < n → (t i).used ≡ false → (t i).blank ≡ true

-- ---- handles

-- the default handle is live: the two differ in their first word
pub default_live : same_handle default_words retired_words ≡ false
unfolding same_handle
default_live = all_fails (λ j. eqb (get_or default_words j 0) (get_or retired_words j 0)) 0 handle_words (ne_eqb 0 retired_word (λ z. omega arith)) (omega arith)

module _ (h : List ℕ) (p : Place) (e : has_handle h p ≡ true) where
  pub has_used : p.used ≡ true
  unfolding has_handle
  has_used = and_left p.used (same_handle p.handle h) e

  pub has_same : same_handle p.handle h ≡ true
  unfolding has_handle
  has_same = and_right p.used (same_handle p.handle h) e

pub has_made : (h : List ℕ) (p : Place) → p.used ≡ true → same_handle p.handle h ≡ true → has_handle h p ≡ true
unfolding has_handle
has_made h p u s = rw (u, s)

-- a used node without a handle
pub has_not : (h : List ℕ) (p : Place) → has_handle h p ≡ false → p.used ≡ true → same_handle p.handle h ≡ false
unfolding has_handle
has_not h p e u = go p.used u e
  where
    go : (b : Bool) → b ≡ true → (b && same_handle p.handle h) ≡ false → same_handle p.handle h ≡ false
    go true q w = w
    go false q w = absurd (true≢false (sym q))

-- the node that a search found has the handle, and no node has it where none was found
module _ (n : ℕ) (t : Tree) (h : List ℕ) where
  pub with_there : node_with n t h < n → has_handle h (t (node_with n t h)) ≡ true
  unfolding node_with
  with_there l = first_there (λ i. has_handle h (t i)) n 0 (omega arith)

  pub with_none : n ≤ node_with n t h → (i : ℕ) → i < n → has_handle h (t i) ≡ false
  unfolding node_with
  with_none g i l = first_lowest (λ i. has_handle h (t i)) n 0 i (omega arith) (omega arith)

  -- a fresh handle: no used node has it
  pub with_fresh : n ≤ node_with n t h → (i : ℕ) → i < n → (t i).used ≡ true → same_handle (t i).handle h ≡ false
  with_fresh g i l u = has_not h (t i) (with_none g i l) u

-- ---- from the facts to the test

module _ (n : ℕ) (few : n ≤ root_mark) (t : Tree) (top : ℕ) (f : Formed n t top) where
  child_root : (i : ℕ) → (t i).parent < n → is_root (t i) ≡ false
  unfolding is_root
  child_root i l = rw (ne_eqb (t i).parent root_mark (λ w. omega arith)) (and-false (t i).used)

  pub root_else : (i : ℕ) → i < n → i ≢ top → is_root (t i) ≡ false
  root_else i l z = go (t i).used refl
    where
      go : (b : Bool) → (t i).used ≡ b → is_root (t i) ≡ false
      go true e = child_root i (f.rooted.child i l e z).below
      go false e = unfold is_root in (rw e)

  place_ok_law : (i : ℕ) → i < n → place_ok n t i ≡ true
  unfolding place_ok
  place_ok_law i l = go (t i).used refl
    where
      shape : (t i).used ≡ true → cond (is_root (t i)) (root_ok (t i)) (child_ok n t i) ≡ true
      shape u = elim (ℕ_discrete i top) [
        | yes z ↦ rw (ap (λ (j : ℕ). is_root (t j)) z ∙ f.rooted.root, ap (λ (j : ℕ). root_ok (t j)) z ∙ f.rooted.kind)
        | no z ↦ (let c = f.rooted.child i l u z in unfold child_ok in (rw (root_else i l z, c.flags, lt-ltb (t i).parent n c.below, c.up)))
      ]

      go : (b : Bool) → (t i).used ≡ b → cond b (cond (is_root (t i)) (root_ok (t i)) (child_ok n t i)) (t i).blank ≡ true
      go true e = shape e
      go false e = f.blank i l e

  one_root : count_below n (λ i. is_root (t i)) ≡ 1
  one_root = count_only (λ i. is_root (t i)) n top f.rooted.below f.rooted.root root_else

  apart_ok : (i : ℕ) → i < n → apart_below t i ≡ true
  unfolding apart_below clash
  apart_ok i l =
      all_below_law (λ j. not (clash t i j)) i
      (λ j b. go (t i).used (t j).used (same_handle (t i).handle retired_words) (same_handle (t i).handle (t j).handle)
      (f.apart i j l (omega arith) (λ (w : i ≡ j). omega arith)))
    where
      go : (a b c d : Bool) → (a ≡ true → b ≡ true → c ≡ false → d ≡ false) → not (a && (b && (not c && d))) ≡ true
      go false b c d h = refl
      go true false c d h = refl
      go true true true d h = refl
      go true true false d h = rw (h refl refl refl)

  pub formed_true : well_formed n t ≡ true
  unfolding well_formed leads_if_used
  formed_true =
      rw (all_below_law (place_ok n t) n place_ok_law, one_root, all_below_law (apart_below t) n apart_ok, all_below_law (leads_if_used n t) n (λ i l. go i l (t i).used refl))
    where
      go : (i : ℕ) → i < n → (b : Bool) → (t i).used ≡ b → cond b (leads n t (n - 1) i) true ≡ true
      go i l true e = f.rooted.way i l e
      go i l false e = refl

  -- the search finds the root
  pub top_found : root_in n t ≡ top
  unfolding root_in
  top_found = sym (found_only (λ i. is_root (t i)) n top one_root f.rooted.below f.rooted.root)

-- ---- a live handle has one node, which a search finds

module _ (n : ℕ) (t : Tree) (top : ℕ) (f : Formed n t top) (h : List ℕ) (live : same_handle h retired_words ≡ false) where
  still_live : (i : ℕ) → has_handle h (t i) ≡ true → same_handle (t i).handle retired_words ≡ false
  still_live i q = go (same_handle (t i).handle retired_words) refl
    where
      go : (b : Bool) → same_handle (t i).handle retired_words ≡ b → same_handle (t i).handle retired_words ≡ false
      go true e = absurd (true≢false (sym (same_trans h (t i).handle retired_words (same_sym h (t i).handle ∙ has_same h (t i) q) e) ∙ live))
      go false e = e

  pub handle_once : (i j : ℕ) → i < n → j < n → has_handle h (t i) ≡ true → has_handle h (t j) ≡ true → i ≡ j
  handle_once i j l m q r = elim (ℕ_discrete i j) [
    | yes e ↦ e
    | no z ↦ absurd (true≢false (sym (same_trans (t i).handle h (t j).handle (has_same h (t i) q) (same_sym h (t j).handle ∙ has_same h (t j) r))
        ∙ f.apart i j l m z (has_used h (t i) q) (has_used h (t j) r) (still_live i q)))
  ]

  -- the node with the handle is the one that is found
  pub with_found : (i : ℕ) → i < n → has_handle h (t i) ≡ true → node_with n t h ≡ i
  with_found i l q = elim (dec_lt (node_with n t h) n) [
    | yes b ↦ handle_once (node_with n t h) i b l (with_there n t h b) q
    | no b ↦ absurd (true≢false (sym q ∙ with_none n t h (omega arith) i l))
  ]

  -- and any other has another
  pub with_else : (i : ℕ) → i < n → i ≢ node_with n t h → has_handle h (t i) ≡ false
  with_else i l z = go (has_handle h (t i)) refl
    where
      go : (b : Bool) → has_handle h (t i) ≡ b → has_handle h (t i) ≡ false
      go true e = absurd (z (sym (with_found i l e)))
      go false e = e

-- ---- from the test to the facts

-- the first index of a kind of which there is one node
pub record Only (n : ℕ) (p : ℕ → Bool) (i : ℕ) : Type 0 where
  pub below : i < n
  pub there : p i ≡ true
  pub only : (j : ℕ) → j < n → j ≢ i → p j ≡ false

module _ (n : ℕ) (t : Tree) (h : well_formed n t ≡ true) where
  abbrev P : Bool
  P = all_below n (place_ok n t)

  abbrev R : Bool
  R = eqb (count_below n (λ i. is_root (t i))) 1

  abbrev H : Bool
  H = all_below n (apart_below t)

  abbrev W : Bool
  W = all_below n (leads_if_used n t)

  whole : (P && (R && (H && W))) ≡ true
  whole = unfold well_formed in h

  found : (p : ℕ → Bool) (k : ℕ) → count_below n p ≡ 1 → ((j : ℕ) → j < n → p j ≡ true → j ≡ k) → k < n → p k ≡ true → Only n p k
  found p k one only below there =
      record { below = below; there = there; only = λ j l z. go j l z (p j) refl }
    where
      go : (j : ℕ) → j < n → j ≢ k → (b : Bool) → p j ≡ b → p j ≡ false
      go j l z true e = absurd (z (only j l e))
      go j l z false e = e

  pub root_only : Only n (λ i. is_root (t i)) (root_in n t)
  unfolding root_in
  root_only =
      let one = eqb-true (count_below n (λ i. is_root (t i))) 1 (and_left R (H && W) (and_right P (R && (H && W)) whole)) in
      let b = counted_found (λ i. is_root (t i)) n (omega arith) in
      found (λ i. is_root (t i)) (root_in n t) one (λ j l q. found_only (λ i. is_root (t i)) n j one l q) b (first_there (λ i. is_root (t i)) n 0 (omega arith))

  place_at : (i : ℕ) → i < n → (b : Bool) → (t i).used ≡ b → cond b (cond (is_root (t i)) (root_ok (t i)) (child_ok n t i)) (t i).blank ≡ true
  unfolding place_ok
  place_at i l b e = subst (λ (x : Bool). cond x (cond (is_root (t i)) (root_ok (t i)) (child_ok n t i)) (t i).blank ≡ true) e
      (all_at (place_ok n t) n i (and_left P (R && (H && W)) whole) l)

  shape_at : (i : ℕ) → i < n → (t i).used ≡ true → cond (is_root (t i)) (root_ok (t i)) (child_ok n t i) ≡ true
  shape_at i l u = place_at i l true u

  child_of : (i : ℕ) → child_ok n t i ≡ true → Child n t i
  unfolding child_ok
  child_of i e =
      let a = eqb (t i).flags 0 in
      let b = ltb (t i).parent n in
      let c = (t (t i).parent).used in
      record {
        flags = eqb-true (t i).flags 0 (and_left a (b && c) e);
        below = ltb-true (t i).parent n (and_left b c (and_right a (b && c) e));
        up = and_right b c (and_right a (b && c) e);
      }

  clash_not : (i j : ℕ) → not (clash t i j) ≡ true → (t i).used ≡ true → (t j).used ≡ true → same_handle (t i).handle retired_words ≡ false
      → same_handle (t i).handle (t j).handle ≡ false
  unfolding clash
  clash_not i j e a b c = go (t i).used (t j).used (same_handle (t i).handle retired_words) (same_handle (t i).handle (t j).handle) e a b c
    where
      go : (x y z w : Bool) → not (x && (y && (not z && w))) ≡ true → x ≡ true → y ≡ true → z ≡ false → w ≡ false
      go false y z w e a b c = absurd (true≢false (sym a))
      go true false z w e a b c = absurd (true≢false (sym b))
      go true true true w e a b c = absurd (true≢false c)
      go true true false true e a b c = sym e
      go true true false false e a b c = refl

  -- the higher index first
  apart_down : (i j : ℕ) → i < n → j < i → (t i).used ≡ true → (t j).used ≡ true → same_handle (t i).handle retired_words ≡ false
      → same_handle (t i).handle (t j).handle ≡ false
  unfolding apart_below
  apart_down i j l b u v live =
      clash_not i j (all_at (λ j. not (clash t i j)) i j (all_at (apart_below t) n i (and_left H W (and_right R (H && W) (and_right P (R && (H && W)) whole))) l) b) u v live

  -- the lower index first
  apart_up : (i j : ℕ) → j < n → i < j → (t i).used ≡ true → (t j).used ≡ true → same_handle (t i).handle retired_words ≡ false
      → same_handle (t i).handle (t j).handle ≡ false
  apart_up i j l b u v live = go (same_handle (t i).handle (t j).handle) refl (same_handle (t j).handle retired_words) refl
    where
      go : (x : Bool) → same_handle (t i).handle (t j).handle ≡ x → (y : Bool) → same_handle (t j).handle retired_words ≡ y
          → same_handle (t i).handle (t j).handle ≡ false
      go false e y q = e
      go true e true q = absurd (true≢false (sym (same_trans (t i).handle (t j).handle retired_words e q) ∙ live))
      go true e false q = same_sym (t i).handle (t j).handle ∙ apart_down j i l b v u q

  pub formed_says : Formed n t (root_in n t)
  formed_says =
      record {
        rooted =
            record {
              below = root_only.below;
              root = root_only.there;
              kind = rw root_only.there at (shape_at (root_in n t) root_only.below (root_used (t (root_in n t)) root_only.there));
              child = λ i l u z. child_of i (rw (root_only.only i l z) at (shape_at i l u));
              way =
                  λ i l u. unfold leads_if_used in
                  (rw u at (all_at (leads_if_used n t) n i (and_right H W (and_right R (H && W) (and_right P (R && (H && W)) whole))) l));
            };
        apart = λ i j l m z u v live. elim (dec_lt j i) [
          | yes b ↦ apart_down i j l b u v live
          | no b ↦ apart_up i j m (between i j z b) u v live
        ];
        blank = λ i l u. place_at i l false u;
      }
    where
      between : (i j : ℕ) → i ≢ j → (j < i → ⊥) → i < j
      between i j z b = elim (dec_lt i j) [ yes l ↦ l | no w ↦ absurd (z (omega arith)) ]

-- ---- what keeps them

-- a place with another handle
abbrev pub rehandled : List ℕ → Place → Place
rehandled h p = record { used = p.used; blank = p.blank; parent = p.parent; handle = h; flags = p.flags; type = p.type; locality = p.locality }

frame_rehandled : (k : ℕ) (h : List ℕ) (t : Tree) (i : ℕ) → frame (placed k (rehandled h (t k)) t i) ≡ frame (t i)
frame_rehandled k h t i = elim (ℕ_discrete i k) [
  | yes e ↦ ap (λ (j : ℕ). frame (placed k (rehandled h (t k)) t j)) e ∙ ap frame (placed_same k (rehandled h (t k)) t) ∙ ap (λ (j : ℕ). frame (t j)) (sym e)
  | no z ↦ ap frame (placed_other k (rehandled h (t k)) t i z)
]

blank_rehandled : (n k : ℕ) (h : List ℕ) (t : Tree) → ((i : ℕ) → i < n → (t i).used ≡ false → (t i).blank ≡ true)
    → (i : ℕ) → i < n → (placed k (rehandled h (t k)) t i).used ≡ false → (placed k (rehandled h (t k)) t i).blank ≡ true
blank_rehandled n k h t f i l = elim (ℕ_discrete i k) [
  | yes e ↦ (λ u.
      let here : placed k (rehandled h (t k)) t i ≡ rehandled h (t k) = ap (placed k (rehandled h (t k)) t) e ∙ placed_same k (rehandled h (t k)) t in
      ap (λ (p : Place). p.blank) here ∙ ap (λ (j : ℕ). (t j).blank) (sym e)
      ∙ f i l (ap (λ (j : ℕ). (t j).used) e ∙ sym (ap (λ (p : Place). p.used) here) ∙ u))
  | no z ↦ (λ u.
      let there : placed k (rehandled h (t k)) t i ≡ t i = placed_other k (rehandled h (t k)) t i z in
      ap (λ (p : Place). p.blank) there ∙ f i l (sym (ap (λ (p : Place). p.used) there) ∙ u))
]

module _ (n : ℕ) (t : Tree) (top : ℕ) (f : Formed n t top) where
  -- a node is retired
  pub formed_retired : (k : ℕ) → Formed n (placed k (rehandled retired_words (t k)) t) top
  formed_retired k =
      record {
        rooted = rooted_same n t (placed k (rehandled retired_words (t k)) t) top f.rooted (frame_rehandled k retired_words t);
        apart = apart_retire n t k (rehandled retired_words (t k)) f.apart refl;
        blank = blank_rehandled n k retired_words t f.blank;
      }

  -- a node gets a handle that no other has
  pub formed_rotated : (k : ℕ) (h : List ℕ) → ((i : ℕ) → i < n → i ≢ k → (t i).used ≡ true → same_handle (t i).handle h ≡ false)
      → Formed n (placed k (rehandled h (t k)) t) top
  formed_rotated k h fresh =
      record {
        rooted = rooted_same n t (placed k (rehandled h (t k)) t) top f.rooted (frame_rehandled k h t);
        apart = apart_fresh n t k (rehandled h (t k)) f.apart fresh;
        blank = blank_rehandled n k h t f.blank;
      }

  -- a free place becomes a node below a used one, with a handle that no other has
  pub formed_more : (k : ℕ) (p : Place) → k < n → (t k).used ≡ false → p.used ≡ true → p.flags ≡ 0 → p.parent < n → (t p.parent).used ≡ true
      → ((i : ℕ) → i < n → i ≢ k → (t i).used ≡ true → same_handle (t i).handle p.handle ≡ false) → Formed n (placed k p t) top
  formed_more k p l free used flags below up fresh =
      record {
        rooted = rooted_more n t top f.rooted k p l free used flags below up;
        apart = apart_fresh n t k p f.apart fresh;
        blank = λ i b u. elim (ℕ_discrete i k) [
          | yes e ↦ absurd (true≢false (sym (ap (λ (q : Place). q.used) (ap (placed k p t) e ∙ placed_same k p t) ∙ used) ∙ u))
          | no z ↦ ap (λ (q : Place). q.blank) (placed_other k p t i z) ∙ f.blank i b (sym (ap (λ (q : Place). q.used) (placed_other k p t i z)) ∙ u)
        ];
      }

-- ---- a node below another that is retired at the same time: a stash below the holder, or a derive without retain

-- node b retired, and a free place k that becomes a node below it
abbrev pub stashed : ℕ → ℕ → Place → Tree → Tree
stashed b k p t = placed k p (placed b (rehandled retired_words (t b)) t)

use_kept : (k : ℕ) (h : List ℕ) (t : Tree) (i : ℕ) → (placed k (rehandled h (t k)) t i).used ≡ (t i).used
use_kept k h t i = ap (λ (f : Frame). f.used) (frame_rehandled k h t i)

module _ (n : ℕ) (t : Tree) (top : ℕ) (f : Formed n t top) (b k : ℕ) (p : Place) (l : k < n) (free : (t k).used ≡ false) (used : p.used ≡ true)
    (flags : p.flags ≡ 0) (below : p.parent ≡ b) (there : b < n) (up : (t b).used ≡ true) where
  u : Tree
  u = placed b (rehandled retired_words (t b)) t

  -- the handle of the new node is no other's, but perhaps b's until now; it is live
  pub formed_stashed : same_handle p.handle retired_words ≡ false
      → ((i : ℕ) → i < n → i ≢ b → (t i).used ≡ true → same_handle (t i).handle p.handle ≡ false) → Formed n (stashed b k p t) top
  unfolding u
  formed_stashed live fresh =
      formed_more n u top (formed_retired n t top f b) k p l (use_kept b retired_words t k ∙ free) used flags (rw below there)
      (ap (λ (j : ℕ). (u j).used) below ∙ use_kept b retired_words t b ∙ up) fresh_now
    where
      fresh_now : (i : ℕ) → i < n → i ≢ k → (u i).used ≡ true → same_handle (u i).handle p.handle ≡ false
      fresh_now i m z v = elim (ℕ_discrete i b) [
        | yes e ↦ ap (λ (q : Place). same_handle q.handle p.handle) (ap u e ∙ placed_same b (rehandled retired_words (t b)) t)
            ∙ same_sym retired_words p.handle ∙ live
        | no w ↦ ap (λ (q : Place). same_handle q.handle p.handle) (placed_other b (rehandled retired_words (t b)) t i w)
            ∙ fresh i m w (sym (use_kept b retired_words t i) ∙ v)
      ]

-- a free place that the search found
pub free_there : (n : ℕ) (t : Tree) → lowest_free n t < n → (t (lowest_free n t)).used ≡ false
unfolding lowest_free
free_there n t l = go (t (lowest_free n t)).used (first_there (λ i. not (t i).used) n 0 (omega arith))
  where
    go : (b : Bool) → not b ≡ true → b ≡ false
    go true q = sym q
    go false q = refl

-- a handle that only node b has is no other's
pub others_lack : (n : ℕ) (t : Tree) (h k : List ℕ) (b : ℕ) → same_handle k h ≡ true → ((i : ℕ) → i < n → i ≢ b → has_handle h (t i) ≡ false)
    → (i : ℕ) → i < n → i ≢ b → (t i).used ≡ true → same_handle (t i).handle k ≡ false
others_lack n t h k b s e i l z u = go (same_handle (t i).handle k) refl
  where
    go : (x : Bool) → same_handle (t i).handle k ≡ x → same_handle (t i).handle k ≡ false
    go true q = absurd (true≢false (sym (same_trans (t i).handle k h q s) ∙ has_not h (t i) (e i l z) u))
    go false q = q

-- a stash keeps any well-formed tree with a holder well formed
pub stash_keeps : (n : ℕ) → n ≤ root_mark → (t : Tree) (p : Place) → well_formed n t ≡ true → node_with n t default_words < n → lowest_free n t < n
    → p.used ≡ true → p.flags ≡ 0 → p.parent ≡ node_with n t default_words → p.handle ≡ default_words
    → well_formed n (stashed (node_with n t default_words) (lowest_free n t) p t) ≡ true
stash_keeps n few t p h held room used flags up default =
    let f = formed_says n t h in
    let b = node_with n t default_words in
    formed_true n few (stashed b (lowest_free n t) p t) (root_in n t)
    (formed_stashed n t (root_in n t) f b (lowest_free n t) p room (free_there n t room) used flags up held
    (has_used default_words (t b) (with_there n t default_words held))
    (ap (λ (w : List ℕ). same_handle w retired_words) default ∙ default_live)
    (others_lack n t default_words p.handle b (ap (λ (w : List ℕ). same_handle w default_words) default ∙ same_refl default_words)
    (with_else n t (root_in n t) f default_words default_live)))
