-- The invariant: the way from the start is the way from here with the steps that are left, and the start leads to the root where this node does.
use Prim.Native.Nat.{◌-◌, ◌<◌}
use mathlib.Core.Path.{◌≡◌}
use mathlib.Core.Bool.{true}
use Rattle.layout.specs.Sizes.{node_count}
use Rattle.tree.specs.Tree.{leads}
use Rattle.tree.specs.Nodes.{tree_in}
use Rattle.tree.proofs.path.leads_to_root.Given as goal

abbrev pub invariant-loop : goal.invariant-loop
invariant-loop l =
    (l.at < node_count) × (leads node_count (tree_in l.image) (node_count - 1) l.node.index ≡ leads node_count (tree_in l.image) (node_count - 1 - l.counter) l.at)
    × (leads node_count (tree_in l.image) (node_count - 1) l.at ≡ true → leads node_count (tree_in l.image) (node_count - 1) l.node.index ≡ true)

abbrev pub decreases-loop : goal.decreases-loop
decreases-loop l = node_count - 1 - l.counter
