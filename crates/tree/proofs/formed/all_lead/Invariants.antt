-- The invariant: every used node below i leads to the root, and so does every node with a mark.
use Prim.Native.Nat.{◌-◌, ◌≤◌}
use mathlib.Core.Path.{◌≡◌}
use mathlib.Core.Bool.{true}
use Rattle.layout.specs.Sizes.{node_count}
use Rattle.layout.specs.Below.{all_below}
use Rattle.tree.specs.Tree.{leads_if_used}
use Rattle.tree.specs.Nodes.{tree_in}
use Rattle.tree.specs.Known.{Known}
use Rattle.tree.proofs.formed.all_lead.Given as goal

abbrev pub invariant-loop-i : goal.invariant-loop-i
invariant-loop-i l = (l.i ≤ node_count) × Known node_count (tree_in l.image) l.known × (all_below l.i (leads_if_used node_count (tree_in l.image)) ≡ true)

abbrev pub decreases-loop-i : goal.decreases-loop-i
decreases-loop-i l = node_count - l.i
