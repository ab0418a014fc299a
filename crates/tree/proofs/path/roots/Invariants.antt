-- The invariant: below i the root alone has a mark.
use Prim.Native.Nat.{ℕ, ◌-◌, ◌≤◌, ◌<◌}
use mathlib.Core.Path.{◌≡◌}
use mathlib.Core.Bool.{false}
use lib.ListN.{get_or, length}
use Rattle.layout.specs.Sizes.{node_count}
use Rattle.tree.specs.Tree.{is_root}
use Rattle.tree.specs.Nodes.{tree_in}
use Rattle.tree.proofs.path.roots.Given as goal

abbrev pub invariant-loop-i : goal.invariant-loop-i
invariant-loop-i l = (l.i ≤ node_count) × (length l.known ≡ node_count) × ((j : ℕ) → j < l.i → get_or l.known j false ≡ is_root (tree_in l.image j))

abbrev pub decreases-loop-i : goal.decreases-loop-i
decreases-loop-i l = node_count - l.i
