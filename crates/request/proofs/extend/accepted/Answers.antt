-- The callees, put together; the given register is the request's.
use Rattle.opening.specs.Works.{work_at}
use Rattle.request.proofs.extend.accepted.Goals as goal

pub returns : goal.returns
unfolding work_at
returns c =
    rw (c.ready_with.ensures, c.extension_values-values.ensures, ← c.requires.2)
