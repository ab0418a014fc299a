-- `nodes_first` meets its contract: every index so far is a node's. Assumes nothing.
use Prim.Native.Nat.{ℕ, ◌-◌, ◌≤◌}
use mathlib.Core.Path.{◌≡◌}
use mathlib.Core.Bool.{Bool, true}
use mathlib.Core.List.{List}
use lib.Dec.{ltb}
use lib.ListN.{get_or}
use Rattle.layout.specs.Sizes.{node_count}
use Rattle.layout.specs.Below.{all_below}
use Rattle.table.proofs.nodes_first.Given as goal

abbrev isNode : List ℕ → ℕ → Bool
isNode words i = ltb (get_or words i 0) node_count

abbrev pub invariant-loop-j : goal.invariant-loop-j
invariant-loop-j l = (l.j ≤ l.count) × (all_below l.j (isNode l.words) ≡ true)

abbrev pub decreases-loop-j : goal.decreases-loop-j
decreases-loop-j l = l.count - l.j
