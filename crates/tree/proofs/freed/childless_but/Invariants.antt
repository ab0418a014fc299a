-- The invariant: no node below j but b is a child.
use Prim.Native.Nat.{◌-◌, ◌≤◌}
use mathlib.Core.Path.{◌≡◌}
use mathlib.Core.Bool.{true, not, ◌||◌}
use lib.Dec.{eqb}
use Rattle.layout.specs.Sizes.{node_count}
use Rattle.layout.specs.Below.{all_below}
use Rattle.tree.specs.Tree.{is_child_of}
use Rattle.tree.specs.Nodes.{tree_in}
use Rattle.tree.proofs.freed.childless_but.Given as goal

abbrev pub invariant-loop-j : goal.invariant-loop-j
invariant-loop-j l = (l.j ≤ node_count) × (all_below l.j (λ i. eqb i l.b || not (is_child_of l.p (tree_in l.image i))) ≡ true)

abbrev pub decreases-loop-j : goal.decreases-loop-j
decreases-loop-j l = node_count - l.j
