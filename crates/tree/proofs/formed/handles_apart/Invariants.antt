-- The invariant: every node below i shares no live handle with a node before it.
use Prim.Native.Nat.{◌-◌, ◌≤◌}
use mathlib.Core.Path.{◌≡◌}
use mathlib.Core.Bool.{true}
use Rattle.layout.specs.Sizes.{node_count}
use Rattle.layout.specs.Below.{all_below}
use Rattle.tree.specs.Tree.{apart_below}
use Rattle.tree.specs.Nodes.{tree_in}
use Rattle.tree.proofs.formed.handles_apart.Given as goal

abbrev pub invariant-loop-i : goal.invariant-loop-i
invariant-loop-i l = (l.i ≤ node_count) × (all_below l.i (apart_below (tree_in l.image)) ≡ true)

abbrev pub decreases-loop-i : goal.decreases-loop-i
decreases-loop-i l = node_count - l.i
