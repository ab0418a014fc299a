-- The invariant: this node leads to the root, and so does every node with a mark.
use Prim.Native.Nat.{◌-◌, ◌<◌}
use mathlib.Core.Path.{◌≡◌}
use mathlib.Core.Bool.{true}
use Rattle.layout.specs.Sizes.{node_count}
use Rattle.tree.specs.Tree.{leads}
use Rattle.tree.specs.Nodes.{tree_in}
use Rattle.tree.specs.Known.{Known}
use Rattle.tree.proofs.path.mark_way.Given as goal

abbrev pub invariant-loop : goal.invariant-loop
invariant-loop l =
    (l.at < node_count) × Known node_count (tree_in l.image) l.known × (leads node_count (tree_in l.image) (node_count - 1) l.at ≡ true)

abbrev pub decreases-loop : goal.decreases-loop
decreases-loop l = node_count - l.counter
