-- Each exit is one line of the command's rules; the key lies within a table that is fine.
use mathlib.Core.Path.{ap}
use Rattle.std.specs.Prelude.{Ok}
use native.Mathlib.Omega.{arith}
use Rattle.layout.proofs.Cases.{told}
use Rattle.opening.specs.Works.{work_at}
use Rattle.request.specs.Screen.{screened_opened}
use Rattle.request.proofs.Order.{handoff_length}
use Rattle.request.proofs.identity.serve_identity.Goals as goal

pub returns-then-not-handoff_ok : goal.returns-then-not-handoff_ok
unfolding screened_opened
returns-then-not-handoff_ok c = rw (told c.handoff_ok.ensures c.if-not-handoff_ok.true)

pub slice_bounds-ready_plain-end : goal.slice_bounds-ready_plain-end
slice_bounds-ready_plain-end c = omega (arith, handoff_length c.args.handoff.now (told c.handoff_ok.ensures c.if-not-handoff_ok.false))

pub returns : goal.returns
unfolding screened_opened work_at
returns c = rw (told c.handoff_ok.ensures c.if-not-handoff_ok.false) (ap Ok c.ready_plain.ensures)
