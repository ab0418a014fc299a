-- A disabling, with an answer of no bytes of its own. Assumes nothing.
use mathlib.Core.Path.{ap}
use Rattle.std.specs.Prelude.{Ok}
use Rattle.opening.specs.Works.{work_at}
use Rattle.request.specs.Screen.{screened_opened}
use Rattle.request.proofs.disable.serve_disable.Goals as goal

pub returns : goal.returns
unfolding screened_opened work_at
returns c = ap Ok c.ready_plain.ensures
