-- The invariant: the count of the nodes below i.
use Prim.Native.Nat.{◌-◌, ◌≤◌}
use mathlib.Core.Path.{◌≡◌}
use Rattle.layout.specs.Sizes.{node_count}
use Rattle.layout.specs.Below.{count_below}
use Rattle.tree.specs.Nodes.{tree_in}
use Rattle.tree.specs.Kinds.{is_of}
use Rattle.tree.proofs.formed.count.Given as goal

abbrev pub invariant-loop-i : goal.invariant-loop-i
invariant-loop-i l = (l.i ≤ node_count) × (l.n ≤ l.i) × (l.n ≡ count_below l.i (λ k. is_of l.sort (tree_in l.image k)))

abbrev pub decreases-loop-i : goal.decreases-loop-i
decreases-loop-i l = node_count - l.i
