-- A fresh handle of any length, and its bytes. Assumes nothing.
use Prim.Native.Nat.{ℕ}
use mathlib.Core.Path.{◌≡◌, refl}
use mathlib.Core.List.{List}
use Rattle.layout.specs.Sizes.{handle_bytes}
use Rattle.layout.specs.Words.{tab, zeros, words_at, part}
use Rattle.nodes.specs.Record.{handle_row, node_row}
use Rattle.opening.specs.Values.{derived_node}

-- its words are those of its bytes
pub row_of_part : (fresh : List ℕ) → handle_row (part handle_bytes fresh 0) ≡ handle_row fresh
unfolding tab words_at part
row_of_part fresh = refl

pub child_of_part : (parent : ℕ) (fresh : List ℕ) (type : ℕ) (digest : List ℕ) (caller : ℕ)
    → node_row (derived_node parent (part handle_bytes fresh 0) type digest caller) ≡ node_row (derived_node parent fresh type digest caller)
unfolding node_row
child_of_part parent fresh type digest caller = rw (row_of_part fresh)

-- what stands for one that a command does not have
pub no_fresh : part handle_bytes (zeros handle_bytes) 0 ≡ zeros handle_bytes
unfolding tab zeros part
no_fresh = refl
