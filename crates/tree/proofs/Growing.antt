-- The list of freed nodes while it grows in its array, the room there, and the bound of the search for children. Assumes nothing.
use mathlib.Core.Path.{◌≡◌, refl, sym, ap, ◌∙◌}
use Prim.Native.Nat.{ℕ, zero, suc, ◌+◌, ◌-◌, ◌≤◌, ◌<◌}
use native.Mathlib.Omega.{arith}
use native.Mathlib.Numerals.{add-one}
use native.Mathlib.Nat.{sub-zero}
use mathlib.Core.Bool.{Bool, true, false, cond, not, ◌||◌}
use mathlib.Core.List.{List, [], ◌∷◌, ◌++◌, append_assoc, append-nil}
use lib.Dec.{eqb}
use lib.ListN.{length, set, take, drop, length-take, length-set, replicate, length-replicate, take-append-drop}
use lib.Seq.{take-suc-set}
use borrow.Author.Tests.{lt-ltb, le-ltb, ne_eqb}
use Rattle.layout.specs.Sizes.{node_count, node_words}
use Rattle.layout.specs.Words.{zeros}
use Rattle.layout.proofs.Bounded.{all_same}
use Rattle.tree.specs.Tree.{Tree, is_child_of, childless, childless_but, goes_too, freed_within, freed_by}

-- a node's words have room for the index of every node
pub room : node_count ≤ node_words
room = omega arith

-- no node below n is node n
pub childless_past : (n : ℕ) (t : Tree) (i : ℕ) → childless_but n t n i ≡ childless n t i
unfolding childless childless_but
childless_past n t i =
    all_same (λ j. eqb j n || not (is_child_of i (t j))) (λ j. not (is_child_of i (t j))) n (λ j l. rw (ne_eqb j n (λ (e : j ≡ n). omega arith)))

-- ---- an array of which `count` places are filled and the others zero

zeros_less : (n m : ℕ) → n ≡ suc m → drop 1 (zeros n) ≡ zeros m
unfolding zeros
zeros_less n m e = ap (λ (k : ℕ). drop 1 (replicate k 0)) e

drop_set : (l : List ℕ) (i v : ℕ) → drop (suc i) (set l i v) ≡ drop (suc i) l
drop_set [] i v = refl
drop_set (x ∷ l) zero v = refl
drop_set (x ∷ l) (suc i) v = drop_set l i v

drop_next : (l : List ℕ) (i : ℕ) → drop (suc i) l ≡ drop 1 (drop i l)
drop_next [] zero = refl
drop_next [] (suc i) = refl
drop_next (x ∷ l) zero = refl
drop_next (x ∷ l) (suc i) = drop_next l i

pub record Partly (n : ℕ) (nodes : List ℕ) (count : ℕ) : Type 0 where
  pub long : length nodes ≡ n
  pub behind : drop count nodes ≡ zeros (n - count)

pub partly_none : (n : ℕ) → Partly n (replicate n 0) 0
unfolding zeros
partly_none n = record { long = length-replicate n 0; behind = ap (λ (k : ℕ). replicate k 0) (sym (sub-zero n)) }

pub partly_more : (n : ℕ) (nodes : List ℕ) (count v : ℕ) → count < n → Partly n nodes count → Partly n (set nodes count v) (count + 1)
partly_more n nodes count v l h =
    record {
      long = length-set nodes count v ∙ h.long;
      behind = rw add-one (drop_set nodes count v ∙ drop_next nodes count ∙ ap (drop 1) h.behind ∙ zeros_less (n - count) (n - suc count) (omega arith));
    }

-- the filled places hold the list l
pub carried : (n : ℕ) (nodes : List ℕ) (count : ℕ) (l : List ℕ) → count ≤ n → Partly n nodes count → l ≡ take count nodes
    → (count ≡ length l) × (nodes ≡ l ++ zeros (n - length l))
carried n nodes count l b h e =
    let long : length l ≡ count = ap length e ∙ length-take count nodes ∙ omega (arith, h.long) in
    (sym long, sym (take-append-drop count nodes) ∙ rw (sym e, h.behind, long))

-- ---- one node more, and the end

module _ (n : ℕ) (t : Tree) where
  pub freed_step : (s at : ℕ) → 0 < s → freed_within n t s at ≡ at ∷ cond (goes_too n t at (t at).parent) (freed_within n t (s - 1) (t at).parent) []
  unfolding freed_within
  freed_step zero at l = absurd (omega arith)
  freed_step (suc s) at l = let e : suc s - 1 ≡ s = omega arith in rw e

  module _ (whole nodes : List ℕ) (count at : ℕ) (l : count < length nodes) (b : count < n - 1)
      (h : whole ≡ take count nodes ++ freed_within n t (n - 1 - count) at) where
    taken : take (count + 1) (set nodes count at) ≡ take count nodes ++ (at ∷ [])
    taken = rw (add-one, take-suc-set nodes count at l)

    pub grow_stop : goes_too n t at (t at).parent ≡ false → whole ≡ take (count + 1) (set nodes count at)
    grow_stop e =
        h
        ∙ ap (λ (r : List ℕ). take count nodes ++ r)
        (freed_step (n - 1 - count) at (omega arith) ∙ ap (λ (x : Bool). at ∷ cond x (freed_within n t (n - 1 - count - 1) (t at).parent) []) e)
        ∙ sym taken

    pub grow_on : goes_too n t at (t at).parent ≡ true
        → whole ≡ take (count + 1) (set nodes count at) ++ freed_within n t (n - 1 - (count + 1)) (t at).parent
    grow_on e =
        h
        ∙ ap (λ (r : List ℕ). take count nodes ++ r)
        (freed_step (n - 1 - count) at (omega arith) ∙ ap (λ (x : Bool). at ∷ cond x (freed_within n t (n - 1 - count - 1) (t at).parent) []) e)
        ∙ ap (λ (s : ℕ). take count nodes ++ (at ∷ freed_within n t s (t at).parent)) less
        ∙ sym (append_assoc (take count nodes) (at ∷ []) (freed_within n t (n - 1 - (count + 1)) (t at).parent))
        ∙ ap (λ (r : List ℕ). r ++ freed_within n t (n - 1 - (count + 1)) (t at).parent) (sym taken)
      where
        less : n - 1 - count - 1 ≡ n - 1 - (count + 1)
        less = omega arith

  pub grow_full : (whole nodes : List ℕ) (count at : ℕ) → n - 1 ≤ count → whole ≡ take count nodes ++ freed_within n t (n - 1 - count) at
      → whole ≡ take count nodes
  unfolding freed_within
  grow_full whole nodes count at b h =
      let e : n - 1 - count ≡ 0 = omega arith in
      h ∙ ap (λ (s : ℕ). take count nodes ++ freed_within n t s at) e ∙ append-nil (take count nodes)

  pub freed_start : (i : ℕ) → i < n → freed_by n t i ≡ [] ++ freed_within n t (n - 1 - 0) i
  unfolding freed_by
  freed_start i l = rw (lt-ltb i n l) (ap (λ (s : ℕ). freed_within n t s i) (sym (sub-zero (n - 1))))

  pub freed_none : (i : ℕ) → n ≤ i → freed_by n t i ≡ []
  unfolding freed_by
  freed_none i l = rw (le-ltb i n l)
