-- A tree command's kind and values (document 02, §5) as the code's struct. Assumes nothing.
use Rattle.std.specs.Prelude.{ℕ, List}
use Rattle.tree.specs.Nodes.{tree_in}
use Rattle.opening.specs.Orders.{NodeCommand}
use Rattle.opening.specs.Works.{order_kind, order_values}
use Rattle.invoking.specs.declared.Planned.{Planned}

abbrev pub planned_of : NodeCommand → (fresh : List ℕ) → ℕ → List ℕ → Planned
planned_of command fresh caller image =
    record { kind = order_kind command (tree_in image); values = order_values command fresh caller image }
