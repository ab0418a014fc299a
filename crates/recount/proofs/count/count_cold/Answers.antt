-- What the boot tells is what is told of it.
use mathlib.Core.Path.{◌∙◌}
use Rattle.replaying.specs.Replay.{boot_from}
use Rattle.recount.proofs.MadeOn.{cold_told}
use Rattle.recount.proofs.count.count_cold.Goals as goal

pub returns : goal.returns
returns c =
    let told = cold_told c.args.image.now (boot_from c.args.runtime c.args.manifest) in
    record { value = rw (c.or.ensures, c.boot_cold.ensures.value) told.0; image_after = c.boot_cold.ensures.image_after ∙ told.1 }
