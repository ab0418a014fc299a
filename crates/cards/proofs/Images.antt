-- The images of a cold boot and stashes: the root's word 0, how many nodes they use, and that a request is served on them. Assumes nothing.
use mathlib.Core.Path.{◌≡◌, refl, sym, ap, ◌∙◌, subst}
use mathlib.Core.Logic.{◌≢◌}
use Prim.Native.Nat.{ℕ, zero, suc, ◌+◌, ◌-◌, ◌≤◌, ◌<◌}
use native.Mathlib.Nat.{add-zero}
use native.Mathlib.Omega.{arith}
use native.Mathlib.Decide.{ℕ_discrete, dec_lt}
use mathlib.Core.Bool.{Bool, true, false, not, true≢false}
use mathlib.Core.List.{List, foldl}
use mathlib.Core.Option.{Option, none, some}
use lib.ListN.{get_or, set, replicate, length-replicate, length-set}
use lib.Seq.{get_or-set_same, get_or-set_other}
use Rattle.layout.specs.Sizes.{node_count}
use Rattle.layout.specs.Words.{zeros, tab, words_at}
use Rattle.layout.specs.Below.{all_below}
use Rattle.layout.proofs.Blocks.{get_d_kept}
use Rattle.layout.proofs.Bounded.{count_first, first_lowest}
use Rattle.tree.specs.Tree.{Place, Tree, default_words, same_handle, has_handle, node_with, lowest_free, well_formed}
use Rattle.tree.specs.Nodes.{word, tree_in}
use Rattle.nodes.specs.Record.{Node, retired_handle, with_handle, place_of, tree_of}
use Rattle.nodes.proofs.Rows.{row_first}
use Rattle.tree.proofs.WellFormed.{default_live, has_used, with_there, with_found, free_there}
use Rattle.opening.specs.Values.{extended_by_boot, stashed_node, root_node}
use Rattle.opening.specs.Tasks.{BootInputs, Measurement, stash, cold_boot}
use Rattle.opening.specs.Openings.{boot_number, open_cold_boot, cold_booted}
use Rattle.history.specs.Ledger.{Chain, Contents, tree_at, changed, next_chain, next, blank, state_of}
use Rattle.history.proofs.Encoded.{Shape, encodes, tree_read, length_image, mark_read, attestation_read}
use Rattle.history.proofs.Good.{Good, good_cold, good_stash, formed_good}
use Rattle.history.proofs.Demand.{cold_image_law}
use Rattle.cards.specs.Cards.{Serving, used_nodes}
use Rattle.respond.specs.Program.{program_boot}
use Rattle.cards.specs.Images.{zero_measurement, first_boot, history_of, image_with, own_parent, looped, own_parent_image}

-- ---- after a cold boot

pub root_word : (before : List ℕ) (x : BootInputs) → boot_number (open_cold_boot before x).status ≡ 0 → get_or (cold_booted before x) 400 0 ≡ 0x00FF0001
unfolding next_chain word
root_word before x e =
    ap (λ (l : List ℕ). get_or l 400 0) (cold_image_law before x e)
    ∙ encodes 1 1 s (good_cold blank.chain x).shape 0 0 (omega (arith, (good_cold blank.chain x).shape.nodes)) (omega arith)
    ∙ row_first (root_node (extended_by_boot (zeros 48) x))
  where
    s : Contents
    s = next blank (cold_boot x)

-- ---- used places

-- the places below k are used, and no other
record Filled (t : Tree) (k : ℕ) : Type 0 where
  pub low : (i : ℕ) → i < k → (t i).used ≡ true
  pub high : (i : ℕ) → k ≤ i → (t i).used ≡ false

-- so that the lowest free one is k
filled_find : (t : Tree) (k : ℕ) → k < node_count → Filled t k → lowest_free node_count t ≡ k
filled_find t k l f = elim (dec_lt (lowest_free node_count t) k) [
  | yes b ↦ absurd (true≢false (sym (f.low (lowest_free node_count t) b) ∙ free_there node_count t (omega arith)))
  | no b ↦ elim (dec_lt k (lowest_free node_count t)) [
    | yes c ↦ absurd (true≢false
        (sym (negated (t k).used (unfold lowest_free in (first_lowest (λ i. not (t i).used) node_count 0 k (omega arith) c))) ∙ f.high k (omega arith)))
    | no c ↦ omega arith
  ]
]
  where
    negated : (b : Bool) → not b ≡ false → b ≡ true
    negated true h = refl
    negated false h = sym h

used_changed : (f : Node → Node) (s : Option Node) → (place_of (changed f s)).used ≡ (place_of s).used
used_changed f none = refl
used_changed f (some n) = refl

abbrev is_used : Option Node → Bool
is_used s = (place_of s).used

-- a node that has the default handle is found
held_by : (x : Chain) → Good x → (i : ℕ) → i < node_count → has_handle default_words (tree_at x i) ≡ true → node_with node_count (tree_at x) default_words < node_count
held_by x g i l e = rw (with_found node_count (tree_at x) g.top g.formed default_words default_live i l e) l

default_held : (p : ℕ) (m : Measurement) → has_handle default_words (place_of (some (stashed_node p m))) ≡ true
unfolding has_handle same_handle all_below words_at tab
default_held p m = refl

root_held : (journey : List ℕ) → has_handle default_words (place_of (some (root_node journey))) ≡ true
unfolding has_handle same_handle all_below words_at tab
root_held journey = refl

-- a stash fills one more
module _ (x : Chain) (g : Good x) (k : ℕ) (room : k < node_count) (f : Filled (tree_at x) k) (held : node_with node_count (tree_at x) default_words < node_count)
    (m : Measurement) where
  free_is : lowest_free node_count (tree_at x) ≡ k
  free_is = filled_find (tree_at x) k room f

  stash_good : Good (next_chain x (stash m))
  stash_good = good_stash x m g held (rw free_is room)

  abbrev holder : ℕ
  holder = node_with node_count (tree_at x) default_words

  -- the holder's place is not the free one
  apart : holder ≢ lowest_free node_count (tree_at x)
  apart z =
      true≢false
      (sym (has_used default_words (tree_at x holder) (with_there node_count (tree_at x) default_words held)) ∙ f.high holder (omega (arith, free_is)))

  stash_held : node_with node_count (tree_at (next_chain x (stash m))) default_words < node_count
  stash_held = held_by (next_chain x (stash m)) stash_good (lowest_free node_count (tree_at x)) (rw free_is room) there
    where
      there : has_handle default_words (tree_at (next_chain x (stash m)) (lowest_free node_count (tree_at x))) ≡ true
      there =
          unfold next_chain in
          (ap (λ (s : Option Node). has_handle default_words (place_of s))
          (get_or-set_other (set x.nodes (lowest_free node_count (tree_at x)) (some (stashed_node holder m))) holder (lowest_free node_count (tree_at x))
          (changed (with_handle retired_handle) (get_or x.nodes holder none)) none (λ e. apart (sym e))
          ∙ get_or-set_same x.nodes (lowest_free node_count (tree_at x)) (some (stashed_node holder m)) none (omega (arith, free_is, g.shape.nodes)))
          ∙ default_held holder m)

  stash_filled : Filled (tree_at (next_chain x (stash m))) (suc k)
  unfolding next_chain
  stash_filled =
      record {
        low = λ i l. kept i ∙ (elim (ℕ_discrete i free) [
          | yes z ↦ ap (λ (j : ℕ). is_used (get_or ms j none)) z ∙ ap is_used (get_or-set_same ns free new none (omega (arith, free_is, g.shape.nodes)))
          | no z ↦ ap is_used (get_or-set_other ns free i new none z) ∙ f.low i (omega (arith, free_is))
        ]);
        high = λ i l. kept i ∙ ap is_used (get_or-set_other ns free i new none (λ z. omega (arith, free_is))) ∙ f.high i (omega arith);
      }
    where
      ns : List (Option Node)
      ns = x.nodes

      h : ℕ
      h = node_with node_count (tree_at x) default_words

      free : ℕ
      free = lowest_free node_count (tree_at x)

      new : Option Node
      new = some (stashed_node (node_with node_count (tree_at x) default_words) m)

      ms : List (Option Node)
      ms = set x.nodes (lowest_free node_count (tree_at x)) (some (stashed_node (node_with node_count (tree_at x) default_words) m))

      -- the holder's place stays used
      kept : (i : ℕ) → is_used (get_or (set ms h (changed (with_handle retired_handle) (get_or ns h none))) i none) ≡ is_used (get_or ms i none)
      kept i =
          get_d_kept is_used ms h i (changed (with_handle retired_handle) (get_or ns h none)) none
          (used_changed (with_handle retired_handle) (get_or ns h none) ∙ ap is_used (sym (get_or-set_other ns free h new none apart)))

-- n stashes fill n more
record Used (x : Contents) (k : ℕ) : Type 0 where
  pub good : Good x.chain
  pub filled : Filled (tree_at x.chain) k
  pub held : node_with node_count (tree_at x.chain) default_words < node_count

stashes : (m : Measurement) (n : ℕ) (x : Contents) (k j : ℕ) → Used x k → k + n ≡ j → j ≤ node_count → Used (foldl next x (replicate n (stash m))) j
stashes m zero x k j u e l = subst (Used x) (sym (add-zero k) ∙ e) u
stashes m (suc n) x k j u e l =
    stashes m n (next x (stash m)) (suc k) j
    (record {
      good = stash_good x.chain u.good k (omega arith) u.filled u.held m;
      filled = stash_filled x.chain u.good k (omega arith) u.filled u.held m;
      held = stash_held x.chain u.good k (omega arith) u.filled u.held m;
    })
    (omega arith)
    l

-- ---- the images

no_node : (n i : ℕ) → is_used (get_or (replicate n none) i none) ≡ false
no_node zero i = refl
no_node (suc n) zero = refl
no_node (suc n) (suc i) = no_node n i

cold_filled : (n : ℕ) (r : Node) → 0 < n → Filled (tree_of (set (replicate n none) 0 (some r))) 1
cold_filled n r l =
    record {
      low = λ i b. (let z : i ≡ 0 = omega arith in
          ap (λ (j : ℕ). is_used (get_or (set (replicate n none) 0 (some r)) j none)) z
          ∙ ap is_used (get_or-set_same (replicate n none) 0 (some r) none (rw (length-replicate {A = Option Node} n none) l)));
      high = λ i b. ap is_used (get_or-set_other (replicate n none) 0 i (some r) none (λ (z : i ≡ 0). omega arith)) ∙ no_node n i;
    }

cold_used : (x : BootInputs) → Used (next blank (cold_boot x)) 1
unfolding next_chain
cold_used x =
    record {
      good = good_cold blank.chain x;
      filled = cold_filled node_count (root_node (extended_by_boot (zeros 48) x)) (omega arith);
      held =
          held_by (next_chain blank.chain (cold_boot x)) (good_cold blank.chain x) 0 (omega arith)
          (ap (λ (s : Option Node). has_handle default_words (place_of s))
          (get_or-set_same (replicate node_count none) 0 (some (root_node (extended_by_boot (zeros 48) x))) none
          (rw (length-replicate {A = Option Node} node_count none) (omega arith)))
          ∙ root_held (extended_by_boot (zeros 48) x));
    }

history_used : (k : ℕ) → 0 < k → k ≤ node_count → Used (state_of (history_of k)) k
unfolding state_of
history_used k z l =
    stashes zero_measurement (k - 1) (next blank first_boot) 1 k (cold_used program_boot) (omega arith) l

module _ (k : ℕ) (some_node : 0 < k) (few : k ≤ node_count) where
  abbrev x : Contents
  x = state_of (history_of k)

  u : Used x k
  u = history_used k some_node few

  tree_is : tree_in (image_with k) ≡ tree_at x.chain
  unfolding image_with
  tree_is = tree_read 1 1 x u.good.shape

  pub serving : Serving (image_with k)
  unfolding image_with
  serving =
      record {
        size = length_image 1 1 x u.good.shape;
        done = mark_read 1 1 x;
        on = attestation_read 1 1 x;
        formed = ap (well_formed node_count) tree_is ∙ formed_good x.chain u.good;
        held = subst (λ (t : Tree). node_with node_count t default_words < node_count) (sym tree_is) u.held;
      }

  pub used_count : used_nodes (image_with k) ≡ k
  used_count =
      count_first (λ i. (tree_in (image_with k) i).used) node_count k few
      (λ i l. ap (λ (t : Tree). (t i).used) tree_is ∙ u.filled.low i l)
      (λ i b l. ap (λ (t : Tree). (t i).used) tree_is ∙ u.filled.high i b)

-- ---- a node that is its own parent

two_shape : Shape (state_of (history_of 2)).chain
two_shape = (history_used 2 (omega arith) (omega arith)).good.shape

looped_shape : Shape looped.chain
looped_shape =
    record {
      registers = two_shape.registers;
      long = two_shape.long;
      bytes = two_shape.bytes;
      nodes = length-set (state_of (history_of 2)).chain.nodes 1 (some own_parent) ∙ two_shape.nodes;
    }

loop_place : tree_in own_parent_image 1 ≡ place_of (some own_parent)
unfolding own_parent_image
loop_place =
    ap (λ (t : Tree). t 1) (tree_read 1 1 looped looped_shape)
    ∙ ap place_of (get_or-set_same (state_of (history_of 2)).chain.nodes 1 (some own_parent) none (omega (arith, two_shape.nodes)))

pub loop_used : (tree_in own_parent_image 1).used ≡ true
loop_used = ap (λ (p : Place). p.used) loop_place

pub loop_parent : (tree_in own_parent_image 1).parent ≡ 1
loop_parent = ap (λ (p : Place). p.parent) loop_place
