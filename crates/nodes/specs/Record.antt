-- A node as a record, its words in the image (document 01, "Node words"), and what the rules see of it. Assumes nothing.
use Rattle.std.specs.Prelude.{ℕ, ◌+◌, ◌*◌, ◌^◌, true, false, List, [], ◌∷◌, get_or, replicate}
use Rattle.std.proofs.Math.Option.{Option, none, some}
use Rattle.layout.specs.Sizes.{node_words, register_words, handle_words, handle_bytes}
use Rattle.layout.specs.Words.{words48, words_at, zeros, flat}
use Rattle.tree.specs.Tree.{Place, free_place, Tree}

-- the two handles: zero bytes, "the default context"; bytes 0xFF, retired
abbrev pub default_handle : List ℕ
default_handle = replicate handle_bytes 0

abbrev pub retired_handle : List ℕ
retired_handle = replicate handle_bytes 0xFF

-- the words of a handle
abbrev pub handle_row : List ℕ → List ℕ
handle_row h = words_at handle_words h 0

-- a used node; handle and measurements are byte strings of 20 and 48, the svn is of its measurement (document 02, §7)
pub record Node : Type 0 where
  pub parent : ℕ
  pub tag : ℕ
  pub handle : List ℕ
  pub flags : ℕ
  pub current : List ℕ
  pub cumulative : List ℕ
  pub type : ℕ
  pub locality : ℕ
  pub svn : ℕ

-- a node's words, field by field: word 0, tag, handle, flags, current, cumulative, type, locality, svn
abbrev pub fields_from : ℕ → ℕ → List ℕ → ℕ → List ℕ → List ℕ → ℕ → ℕ → ℕ → List (List ℕ)
fields_from first tag handle flags current cumulative type locality svn =
    (first ∷ []) ∷ (tag ∷ []) ∷ handle ∷ (flags ∷ []) ∷ current ∷ cumulative ∷ (type ∷ []) ∷ (locality ∷ []) ∷ (svn ∷ []) ∷ []

-- "0 low half 1 if used .., high half the parent's index"
abbrev pub fields_of : Node → List (List ℕ)
fields_of n =
    fields_from (1 + 2 ^ 16 * n.parent) n.tag (handle_row n.handle) n.flags (words48 n.current) (words48 n.cumulative) n.type n.locality n.svn

unfoldable pub node_row : Node → List ℕ
node_row n = flat (fields_of n)

-- the words of a place for a node: "a free node is all zero"
abbrev pub place_row : Option Node → List ℕ
place_row none = zeros node_words
place_row (some n) = node_row n

-- a node that a boot, a stash or a derive makes: tag 0
abbrev pub new_node : ℕ → List ℕ → ℕ → List ℕ → List ℕ → ℕ → ℕ → ℕ → Node
new_node parent handle flags current cumulative type locality svn =
    record { parent = parent; tag = 0; handle = handle; flags = flags; current = current; cumulative = cumulative; type = type; locality = locality; svn = svn }

-- a node's new measurements in the places that they have in a node; the other words are zero
abbrev pub measurements_row : List ℕ → List ℕ → List ℕ
measurements_row current cumulative = flat (fields_from 0 0 (zeros handle_words) 0 (words48 current) (words48 cumulative) 0 0 0)

-- and a new handle
abbrev pub handle_placed : List ℕ → List ℕ
handle_placed handle = flat (fields_from 0 0 (handle_row handle) 0 (zeros register_words) (zeros register_words) 0 0 0)

-- ---- a node with one field replaced

-- handle and measurements anew; what else a node holds stays from its making on
abbrev pub remade : List ℕ → List ℕ → List ℕ → Node → Node
remade handle current cumulative n =
    record { parent = n.parent; tag = n.tag; handle = handle; flags = n.flags; current = current; cumulative = cumulative; type = n.type; locality = n.locality; svn = n.svn }

abbrev pub with_handle : List ℕ → Node → Node
with_handle v n = remade v n.current n.cumulative n

abbrev pub with_current : List ℕ → Node → Node
with_current v n = remade n.handle v n.cumulative n

abbrev pub with_cumulative : List ℕ → Node → Node
with_cumulative v n = remade n.handle n.current v n

-- ---- the tree that a list of places makes

abbrev pub place_of : Option Node → Place
place_of none = free_place
place_of (some n) =
    record { used = true; blank = false; parent = n.parent; handle = handle_row n.handle; flags = n.flags; type = n.type; locality = n.locality }

abbrev pub tree_of : List (Option Node) → Tree
tree_of ns = λ i. place_of (get_or ns i none)
