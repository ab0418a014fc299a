-- The answer is what the rules gave.
use Rattle.opening.specs.Tasks.{request_of}
use Rattle.request.proofs.Order.{ruled_answer}
use Rattle.request.proofs.open.open_request.Goals as goal

pub returns : goal.returns
returns c =
    let a = c.args in
    let p = ruled_answer a.image.now (request_of a.code a.bytes.now a.caller a.handoff.now a.verdict a.fresh.now) c.from.result (rw c.request_work.ensures at c.from.ensures) in
    record { value = p.0; status_value = p.1 }
