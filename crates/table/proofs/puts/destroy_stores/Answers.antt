-- `destroy_stores` meets its contract: both ways of the number. Assumes nothing.
use mathlib.Core.Path.{sym}
use native.Mathlib.Omega.{arith}
use Rattle.table.proofs.ByKind.{number_destroy, number_destroy_none}
use Rattle.table.proofs.puts.destroy_stores.Goals as goal

pub returns-then-count-le-NODES : goal.returns-then-count-le-NODES
returns-then-count-le-NODES c = omega (arith, number_destroy c.args.count c.if-count-le-NODES.true)

pub returns : goal.returns
returns c = sym (number_destroy_none c.args.count (omega arith))
