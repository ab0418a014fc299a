-- A search: `first_on` passes a node that is not of the sort, `first_here` ends at one that is, `first_none` past the last.
use Prim.Native.Nat.{◌-◌, ◌≤◌}
use mathlib.Core.Path.{◌≡◌}
use Rattle.layout.specs.Sizes.{node_count}
use Rattle.layout.specs.Below.{first_from}
use Rattle.tree.specs.Nodes.{tree_in}
use Rattle.tree.specs.Kinds.{is_of}
use Rattle.tree.proofs.index.lowest.Given as goal

abbrev pub invariant-loop-i : goal.invariant-loop-i
invariant-loop-i l =
    (l.i ≤ node_count) × (first_from (λ k. is_of l.sort (tree_in l.image k)) node_count 0 ≡ first_from (λ k. is_of l.sort (tree_in l.image k)) (node_count - l.i) l.i)

abbrev pub decreases-loop-i : goal.decreases-loop-i
decreases-loop-i l = node_count - l.i
