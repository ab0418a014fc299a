-- The invariant: what is found so far, then what is freed from this node upwards.
use Prim.Native.Nat.{◌+◌, ◌-◌, ◌<◌}
use mathlib.Core.Path.{◌≡◌}
use mathlib.Core.List.{◌++◌}
use lib.ListN.{take}
use Rattle.layout.specs.Sizes.{node_count, node_words}
use Rattle.tree.specs.Tree.{freed_within, freed_by}
use Rattle.tree.specs.Nodes.{tree_in}
use Rattle.tree.proofs.Growing.{Partly}
use Rattle.tree.proofs.freed.freed_by.Given as goal

abbrev pub invariant-loop : goal.invariant-loop
invariant-loop l =
    (l.count + 1 ≡ l.counter) × (l.at < node_count) × Partly node_words l.nodes l.count
    × (freed_by node_count (tree_in l.image) l.i ≡ take l.count l.nodes ++ freed_within node_count (tree_in l.image) (node_count - 1 - l.count) l.at)

abbrev pub decreases-loop : goal.decreases-loop
decreases-loop l = node_count - l.counter
