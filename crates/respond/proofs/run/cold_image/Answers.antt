-- The boot's contract, at an image of zeros.
use Rattle.layout.specs.Words.{zeros}
use Rattle.respond.specs.Program.{cold_image}
use Rattle.respond.proofs.run.cold_image.Goals as goal

pub returns : goal.returns
unfolding cold_image zeros
returns c = c.boot_cold.ensures.image_after
