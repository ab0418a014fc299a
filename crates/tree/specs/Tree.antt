-- The nodes as a tree: what the rules see of each place for a node, "well formed" (document 01, "What the unit holds"), and what is found there. All is
-- stated over the number n of places. Assumes nothing.
use Rattle.std.specs.Prelude.{ℕ, zero, suc, ◌-◌, List, [], ◌∷◌, Bool, true, false, cond, not, ◌&&◌, ◌||◌, ltb, eqb, get_or, replicate}
use Rattle.layout.specs.Sizes.{handle_words, root_mark, retired_word, internal_flag, root_type}
use Rattle.layout.specs.Words.{zeros}
use Rattle.layout.specs.Below.{all_below, count_below, first_below}

-- a place for a node: all of it but the tag, the measurements and the svn. The handle is its five words; `blank` says that every word of the place is zero
pub record Place : Type 0 where
  pub used : Bool
  pub blank : Bool
  pub parent : ℕ
  pub handle : List ℕ
  pub flags : ℕ
  pub type : ℕ
  pub locality : ℕ

-- "a free node is all zero"
abbrev pub free_place : Place
free_place = record { used = false; blank = true; parent = 0; handle = zeros handle_words; flags = 0; type = 0; locality = 0 }

-- the places by index
abbrev pub Tree : Type 0
Tree = ℕ → Place

-- ---- handles

-- two handles of their own: zero bytes, "the default context"; bytes 0xFF, retired. Any handle but the retired one is live (document 02, §5)
abbrev pub default_words : List ℕ
default_words = replicate handle_words 0

abbrev pub retired_words : List ℕ
retired_words = replicate handle_words retired_word

unfoldable pub same_handle : List ℕ → List ℕ → Bool
same_handle a b = all_below handle_words (λ j. eqb (get_or a j 0) (get_or b j 0))

-- a used node with the handle h; of the default handle it is the holder
unfoldable pub has_handle : List ℕ → Place → Bool
has_handle h p = p.used && same_handle p.handle h

-- ---- well formed, sentence by sentence

-- "exactly one used node has parent 0xFF": the root
unfoldable pub is_root : Place → Bool
is_root p = p.used && eqb p.parent root_mark

-- of the root: "it has bit 31", "flag bits 30 to 0 are zero", "its type is RTJM"
unfoldable pub root_ok : Place → Bool
root_ok p = eqb p.flags internal_flag && eqb p.type root_type

-- of any other used node: "no other has" bit 31, "flag bits 30 to 0 are zero", "parent is a used node below index" n
unfoldable pub child_ok : ℕ → Tree → ℕ → Bool
child_ok n t i = eqb (t i).flags 0 && (ltb (t i).parent n && (t (t i).parent).used)

-- a place by itself: "a free node is all zero", so what is not used is blank
unfoldable pub place_ok : ℕ → Tree → ℕ → Bool
place_ok n t i = cond (t i).used (cond (is_root (t i)) (root_ok (t i)) (child_ok n t i)) (t i).blank

-- "distinct live handles and at most one default holder" (document 02, §5): two used nodes do not share a live handle, and the default one is live
unfoldable pub clash : Tree → ℕ → ℕ → Bool
clash t i j = (t i).used && ((t j).used && (not (same_handle (t i).handle retired_words) && same_handle (t i).handle (t j).handle))

-- node i and those below it
unfoldable pub apart_below : Tree → ℕ → Bool
apart_below t i = all_below i (λ j. not (clash t i j))

-- "the parents lead to the root in at most" n - 1 "steps": from node i in at most s steps
unfoldable pub leads : ℕ → Tree → ℕ → ℕ → Bool
leads n t zero i = is_root (t i)
leads n t (suc s) i = is_root (t i) || (ltb (t i).parent n && leads n t s (t i).parent)

unfoldable pub leads_if_used : ℕ → Tree → ℕ → Bool
leads_if_used n t i = cond (t i).used (leads n t (n - 1) i) true

-- "well formed": each place by itself, one root, distinct live handles, and every way leads to the root
unfoldable pub well_formed : ℕ → Tree → Bool
well_formed n t =
    all_below n (place_ok n t)
    && (eqb (count_below n (λ i. is_root (t i))) 1 && (all_below n (apart_below t) && all_below n (leads_if_used n t)))

-- ---- what is found in a tree; n where there is none

unfoldable pub root_in : ℕ → Tree → ℕ
root_in n t = first_below n (λ i. is_root (t i))

-- the lowest node with a handle
unfoldable pub node_with : ℕ → Tree → List ℕ → ℕ
node_with n t h = first_below n (λ i. has_handle h (t i))

-- "the lowest free node"
unfoldable pub lowest_free : ℕ → Tree → ℕ
lowest_free n t = first_below n (λ i. not (t i).used)

-- ---- children, and what a destroy frees (document 02, §5)

unfoldable pub is_child_of : ℕ → Place → Bool
is_child_of i p = p.used && eqb p.parent i

-- no node is a child of node i; none but node b is
unfoldable pub childless : ℕ → Tree → ℕ → Bool
childless n t i = all_below n (λ j. not (is_child_of i (t j)))

unfoldable pub childless_but : ℕ → Tree → ℕ → ℕ → Bool
childless_but n t b i = all_below n (λ j. eqb j b || not (is_child_of i (t j)))

-- "any retired ancestor left childless except the root": the parent p of a freed node b
unfoldable pub goes_too : ℕ → Tree → ℕ → ℕ → Bool
goes_too n t b p = ltb p n && (not (is_root (t p)) && (has_handle retired_words (t p) && childless_but n t b p))

-- from node i upwards, at most s nodes
unfoldable pub freed_within : ℕ → Tree → ℕ → ℕ → List ℕ
freed_within n t zero i = []
freed_within n t (suc s) i = i ∷ cond (goes_too n t i (t i).parent) (freed_within n t s (t i).parent) []

-- the nodes that a destroy of node i frees, in the order of its stores: fewer than n, since the root stays
unfoldable pub freed_by : ℕ → Tree → ℕ → List ℕ
freed_by n t i = cond (ltb i n) (freed_within n t (n - 1) i) []
