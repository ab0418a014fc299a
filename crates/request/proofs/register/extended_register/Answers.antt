-- The callees, put together.
use Rattle.opening.specs.Works.{register_in}
use Rattle.request.proofs.register.extended_register.Goals as goal

pub returns : goal.returns
unfolding register_in
returns c = rw (c.pack.ensures, c.extend-extended.ensures, c.bytes_in-old.ensures)
