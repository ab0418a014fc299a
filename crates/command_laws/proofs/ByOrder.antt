-- What is asked of each tree command (document 02, §5): where none of its rules applies, its indices are fine. Assumes nothing.
use Prim.Native.Nat.{ℕ, ◌<◌}
use mathlib.Core.Path.{◌≡◌}
use mathlib.Core.Bool.{Bool, true, false, ◌||◌, true≢false}
use mathlib.Core.List.{List}
use lib.Dec.{leb}
use borrow.Author.Tests.{leb-false}
use Rattle.layout.specs.Sizes.{node_count}
use Rattle.tree.specs.Tree.{Tree, retired_words, same_handle, lowest_free}
use Rattle.nodes.specs.Record.{handle_row}
use Rattle.opening.specs.Orders.{derive, traits_of, named_in}
use Rattle.opening.specs.Tasks.{Order}
use Rattle.opening.specs.Rules.{order_rules}
use Rattle.opening.proofs.Decided.{NoneApply}

-- ---- a work's indices

-- no rule applies: the named node is there
pub named_there : (t : Tree) (o : Order) → NoneApply (order_rules t o) → named_in t o.command < node_count
named_there t o n = leb-false node_count (named_in t o.command) (right (same_handle (handle_row (traits_of o.command).handle) retired_words) (leb node_count (named_in t o.command)) n.1.0)
  where
    right : (a b : Bool) → (a || b) ≡ false → b ≡ false
    right true b q = absurd (true≢false q)
    right false b q = q

-- a derive finds a free place
pub derive_room : (t : Tree) (h : List ℕ) (r ty : ℕ) (d fresh : List ℕ) (caller : ℕ)
    → NoneApply (order_rules t (record { command = derive h r ty d; fresh = fresh; caller = caller })) → lowest_free node_count t < node_count
derive_room t h r ty d fresh caller n = leb-false node_count (lowest_free node_count t) n.1.1.1.1.0
