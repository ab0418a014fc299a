-- Each exit is one line of the command's rules.
use mathlib.Core.Path.{ap}
use Rattle.std.specs.Prelude.{Ok}
use Rattle.opening.specs.Works.{work_at}
use Rattle.request.specs.Screen.{screened_opened}
use Rattle.request.proofs.verify.serve_verify.Goals as goal

pub returns-then-verdict : goal.returns-then-verdict
unfolding screened_opened work_at
returns-then-verdict c = rw c.if-verdict.true (ap Ok c.ready_plain.ensures)

pub returns : goal.returns
unfolding screened_opened
returns c = rw c.if-verdict.false
