-- `waggleloft_open_request` meets its contract: what the opening answers is its definition. Assumes nothing.
use Rattle.waggleloft.proofs.openings.waggleloft_open_request.Goals as goal

pub returns : goal.returns
returns c = rw c.open_request-opened.ensures.value at c.open_into.ensures
