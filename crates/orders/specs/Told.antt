-- A tree command as the code's enum. Assumes nothing.
use Rattle.std.specs.Prelude.{[], ◌∷◌, Option, Some, None}
use Rattle.journal.specs.Read.{Read, refused, got}
use Rattle.opening.specs.Orders.{NodeCommand, derive, extend, rotate, destroy, malformed}
use Rattle.orders.specs.declared.Order.{Order}
use Rattle.orders.specs.declared.Order.TheVariants.{Derive, Extend, Rotate, Destroy, Malformed}

unfoldable pub order_told : NodeCommand → Order
order_told (derive h r t d) = Derive (record { handle = h; retain = r; node_type = t; digest = d })
order_told (extend h d) = Extend h d
order_told (rotate h) = Rotate h
order_told (destroy h) = Destroy h
order_told malformed = Malformed

-- and back: the command that any value of the enum is
unfoldable pub command_from : Order → NodeCommand
command_from (Derive fields) = derive fields.handle fields.retain fields.node_type fields.digest
command_from (Extend handle digest) = extend handle digest
command_from (Rotate handle) = rotate handle
command_from (Destroy handle) = destroy handle
command_from Malformed = malformed

-- ---- of the private functions

-- fields with nothing behind them
unfoldable pub whole_told : {A B : Type 0} → Read A → (A → B) → Option B
whole_told (refused n) told = None
whole_told (got v []) told = Some (told v)
whole_told (got v (b ∷ rest)) told = None
