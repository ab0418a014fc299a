-- Both ways give the request that `request_in` names.
use mathlib.Core.Path.{◌∙◌, ap}
use native.Mathlib.Omega.{arith}
use Rattle.opening.specs.Openings.{open_request}
use Rattle.respond.proofs.Input.{request_short, request_long}
use Rattle.respond.proofs.run.open.Goals as goal

pub returns-then-input-lt4 : goal.returns-then-input-lt4
returns-then-input-lt4 c =
    c.open_request.ensures.value ∙ ap (open_request c.args.image.now)
    (request_short c.args.input.now (omega arith))

pub returns : goal.returns
returns c =
    c.open_request-2.ensures.value ∙ ap (open_request c.args.image.now) (request_long
    c.args.input.now c.read32.result (omega arith)
    c.read32.ensures)
