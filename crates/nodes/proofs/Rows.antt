-- A node's words, field by field: one law to read a word of a field, one to replace a field, each for every field. Assumes nothing.
use mathlib.Core.Path.{◌≡◌, refl, sym, ap, ◌∙◌}
use Prim.Native.Nat.{ℕ, ◌+◌, ◌-◌, ◌*◌, ◌^◌, ◌≤◌, ◌<◌}
use native.Mathlib.Omega.{arith}
use mathlib.Core.List.{List, []}
use mathlib.Core.Option.{Option, none, some}
use lib.ListN.{length, get_or, set, replicate, length-append}
use lib.Seq.{sets}
use Rattle.layout.specs.Sizes.{node_words, register_words, tag_at, handle_at, handle_words, flags_at, current_at, cumulative_at, type_at, locality_at, svn_at}
use Rattle.layout.specs.Words.{tab, zeros, words_at, words48, flat}
use Rattle.layout.proofs.Tab.{length_zeros, tab_is}
use Rattle.layout.proofs.Packing.{length_words}
use Rattle.layout.proofs.Blocks.{offset, block_at, block_sets}
use Rattle.tree.specs.Tree.{retired_words}
use Rattle.nodes.specs.Record.{Node, default_handle, retired_handle, handle_row, fields_from, fields_of, node_row, place_row, measurements_row, handle_placed, with_handle, with_current, with_cumulative}

pub length_handle : (h : List ℕ) → length (handle_row h) ≡ handle_words
length_handle h = length_words handle_words h 0

pub length48 : (b : List ℕ) → length (words48 b) ≡ register_words
length48 b = length_words register_words b 0

module _ (n : Node) where
  -- word j of field k, which begins at word `at`
  field_word : (k j at : ℕ) → offset (fields_of n) k ≡ at → j < length (get_or (fields_of n) k []) → get_or (node_row n) (at + j) 0 ≡ get_or (get_or (fields_of n) k []) j 0
  unfolding node_row
  field_word k j at e l = block_at (fields_of n) k j (at + j) (ap (λ (i : ℕ). i + j) (sym e)) l

  -- field k replaced
  field_sets : (k at : ℕ) (vs : List ℕ) → offset (fields_of n) k ≡ at → k < length (fields_of n) → length vs ≡ length (get_or (fields_of n) k [])
      → sets (node_row n) at vs ≡ flat (set (fields_of n) k vs)
  unfolding node_row
  field_sets k at vs e h l = block_sets (fields_of n) k at vs (sym e) h l

  -- where the fields past the handle begin
  flags_begin : offset (fields_of n) 3 ≡ flags_at
  flags_begin = omega (arith, length_handle n.handle)

  current_begins : offset (fields_of n) 4 ≡ current_at
  current_begins = omega (arith, length_handle n.handle)

  cumulative_begins : offset (fields_of n) 5 ≡ cumulative_at
  cumulative_begins = omega (arith, length_handle n.handle, length48 n.current)

  type_begins : offset (fields_of n) 6 ≡ type_at
  type_begins = omega (arith, length_handle n.handle, length48 n.current, length48 n.cumulative)

  locality_begins : offset (fields_of n) 7 ≡ locality_at
  locality_begins = omega (arith, length_handle n.handle, length48 n.current, length48 n.cumulative)

  svn_begins : offset (fields_of n) 8 ≡ svn_at
  svn_begins = omega (arith, length_handle n.handle, length48 n.current, length48 n.cumulative)

  -- ---- the fields by name

  pub row_first : get_or (node_row n) 0 0 ≡ 1 + 2 ^ 16 * n.parent
  unfolding node_row
  row_first = refl

  pub row_handle : (k : ℕ) → k < handle_words → get_or (node_row n) (handle_at + k) 0 ≡ get_or (handle_row n.handle) k 0
  row_handle k h = field_word 2 k handle_at refl (omega (arith, length_handle n.handle))

  pub row_flags : get_or (node_row n) flags_at 0 ≡ n.flags
  row_flags = field_word 3 0 flags_at flags_begin (omega arith)

  pub row_current : (k : ℕ) → k < register_words → get_or (node_row n) (current_at + k) 0 ≡ get_or (words48 n.current) k 0
  row_current k h = field_word 4 k current_at current_begins (omega (arith, length48 n.current))

  pub row_cumulative : (k : ℕ) → k < register_words → get_or (node_row n) (cumulative_at + k) 0 ≡ get_or (words48 n.cumulative) k 0
  row_cumulative k h = field_word 5 k cumulative_at cumulative_begins (omega (arith, length48 n.cumulative))

  pub row_type : get_or (node_row n) type_at 0 ≡ n.type
  row_type = field_word 6 0 type_at type_begins (omega arith)

  pub row_locality : get_or (node_row n) locality_at 0 ≡ n.locality
  row_locality = field_word 7 0 locality_at locality_begins (omega arith)

  pub row_svn : get_or (node_row n) svn_at 0 ≡ n.svn
  row_svn = field_word 8 0 svn_at svn_begins (omega arith)

  pub store_handle : (h : List ℕ) → sets (node_row n) handle_at (handle_row h) ≡ node_row (with_handle h n)
  unfolding node_row
  store_handle h = field_sets 2 handle_at (handle_row h) refl (omega arith) (length_handle h ∙ sym (length_handle n.handle))

  pub store_current : (v : List ℕ) → sets (node_row n) current_at (words48 v) ≡ node_row (with_current v n)
  unfolding node_row
  store_current v = field_sets 4 current_at (words48 v) current_begins (omega arith) (length48 v ∙ sym (length48 n.current))

  pub store_cumulative : (v : List ℕ) → sets (node_row n) cumulative_at (words48 v) ≡ node_row (with_cumulative v n)
  unfolding node_row
  store_cumulative v = field_sets 5 cumulative_at (words48 v) cumulative_begins (omega arith) (length48 v ∙ sym (length48 n.cumulative))

pub length_row : (s : Option Node) → length (place_row s) ≡ node_words
unfolding node_row
length_row none = length_zeros node_words
length_row (some n) = simp (length-append, length_handle, length_words)

-- ---- a row from its words, with tag 0, as the code makes it

pub default_row : handle_row default_handle ≡ zeros handle_words
unfolding words_at tab zeros
default_row = refl

pub retired_row : handle_row retired_handle ≡ retired_words
unfolding words_at tab
retired_row = refl

-- 48 zero bytes
pub zero48 : words48 (replicate 48 0) ≡ zeros register_words
unfolding words_at tab zeros
zero48 = refl

module _ (first : ℕ) (handle : List ℕ) (flags type locality svn : ℕ) (current cumulative : List ℕ) (hh : length handle ≡ handle_words)
    (hc : length current ≡ register_words) (hm : length cumulative ≡ register_words) where
  abbrev raw : List (List ℕ)
  raw = fields_from first 0 handle flags current cumulative type locality svn

  pub raw_tag : (j : ℕ) → j ≡ tag_at → get_or (flat raw) j 0 ≡ 0
  raw_tag j e = block_at raw 1 0 j e (omega arith)

  pub raw_handle : (j : ℕ) → handle_at ≤ j → j < flags_at → get_or (flat raw) j 0 ≡ get_or handle (j - handle_at) 0
  raw_handle j l h = block_at raw 2 (j - handle_at) j (omega arith) (omega arith)

  pub raw_flags : (j : ℕ) → j ≡ flags_at → get_or (flat raw) j 0 ≡ flags
  raw_flags j e = block_at raw 3 0 j (omega arith) (omega arith)

  pub raw_current : (j : ℕ) → current_at ≤ j → j < cumulative_at → get_or (flat raw) j 0 ≡ get_or current (j - current_at) 0
  raw_current j l h = block_at raw 4 (j - current_at) j (omega arith) (omega arith)

  pub raw_cumulative : (j : ℕ) → cumulative_at ≤ j → j < type_at → get_or (flat raw) j 0 ≡ get_or cumulative (j - cumulative_at) 0
  raw_cumulative j l h = block_at raw 5 (j - cumulative_at) j (omega arith) (omega arith)

  pub raw_type : (j : ℕ) → j ≡ type_at → get_or (flat raw) j 0 ≡ type
  raw_type j e = block_at raw 6 0 j (omega arith) (omega arith)

  pub raw_locality : (j : ℕ) → j ≡ locality_at → get_or (flat raw) j 0 ≡ locality
  raw_locality j e = block_at raw 7 0 j (omega arith) (omega arith)

  pub raw_svn : (j : ℕ) → j ≡ svn_at → get_or (flat raw) j 0 ≡ svn
  raw_svn j e = block_at raw 8 0 j (omega arith) (omega arith)

  raw_length : length (flat raw) ≡ node_words
  raw_length = simp length-append (omega arith)

  -- the table of the row's words is the row
  pub raw_filled : tab node_words (λ i. get_or (flat raw) i 0) ≡ flat raw
  raw_filled = tab_is (λ i. get_or (flat raw) i 0) (flat raw) node_words raw_length (λ i b. refl)

-- ---- a node's new measurements and a new handle, in the places that they have in a node

from : (at j : ℕ) → at + j - at ≡ j
from at j = omega arith

module _ (current cumulative : List ℕ) where
  pub measurements_current : (j : ℕ) → j < register_words → get_or (measurements_row current cumulative) (current_at + j) 0 ≡ get_or (words48 current) j 0
  measurements_current j h =
      raw_current 0 (zeros handle_words) 0 0 0 0 (words48 current) (words48 cumulative) (length_zeros handle_words) (length48 current) (length48 cumulative)
      (current_at + j) (omega arith) (omega arith)
      ∙ ap (λ (i : ℕ). get_or (words48 current) i 0) (from current_at j)

  pub measurements_cumulative : (j : ℕ) → j < register_words → get_or (measurements_row current cumulative) (cumulative_at + j) 0 ≡ get_or (words48 cumulative) j 0
  measurements_cumulative j h =
      raw_cumulative 0 (zeros handle_words) 0 0 0 0 (words48 current) (words48 cumulative) (length_zeros handle_words) (length48 current) (length48 cumulative)
      (cumulative_at + j) (omega arith) (omega arith)
      ∙ ap (λ (i : ℕ). get_or (words48 cumulative) i 0) (from cumulative_at j)

pub placed_handle : (handle : List ℕ) (j : ℕ) → j < handle_words → get_or (handle_placed handle) (handle_at + j) 0 ≡ get_or (handle_row handle) j 0
placed_handle handle j h =
    raw_handle 0 (handle_row handle) 0 0 0 0 (zeros register_words) (zeros register_words) (length_handle handle) (length_zeros register_words)
    (length_zeros register_words) (handle_at + j) (omega arith) (omega arith)
    ∙ ap (λ (i : ℕ). get_or (handle_row handle) i 0) (from handle_at j)

-- both are as long as a node
pub length_measurements : (current cumulative : List ℕ) → length (measurements_row current cumulative) ≡ node_words
length_measurements current cumulative =
    raw_length 0 (zeros handle_words) 0 0 0 0 (words48 current) (words48 cumulative) (length_zeros handle_words) (length48 current) (length48 cumulative)

pub length_placed : (handle : List ℕ) → length (handle_placed handle) ≡ node_words
length_placed handle =
    raw_length 0 (handle_row handle) 0 0 0 0 (zeros register_words) (zeros register_words) (length_handle handle) (length_zeros register_words)
    (length_zeros register_words)
