-- A search as `lowest` is, of the nodes with the handle.
use Prim.Native.Nat.{◌-◌, ◌≤◌}
use mathlib.Core.Path.{◌≡◌}
use Rattle.layout.specs.Below.{first_from}
use Rattle.tree.specs.Tree.{has_handle}
use Rattle.tree.specs.Nodes.{tree_in}
use Rattle.tree.proofs.index.lowest_with.Given as goal

abbrev pub invariant-loop-i : goal.invariant-loop-i
invariant-loop-i l =
    (l.i ≤ l.n) × (first_from (λ k. has_handle l.handle (tree_in l.image k)) l.n 0 ≡ first_from (λ k. has_handle l.handle (tree_in l.image k)) (l.n - l.i) l.i)

abbrev pub decreases-loop-i : goal.decreases-loop-i
decreases-loop-i l = l.n - l.i
