-- Refused, the image stays; ready, all stores are made.
use Rattle.opening.specs.Openings.{cold_booted}
use Rattle.boot.proofs.cold.boot_cold.Goals as goal

pub returns-in_err-booted-clause-image_after : goal.returns-in_err-booted-clause-image_after
unfolding cold_booted
returns-in_err-booted-clause-image_after c = rw (← c.open_cold_boot-booted.ensures.value, c.in_err-booted.was)

pub returns-clause-image_after : goal.returns-clause-image_after
unfolding cold_booted
returns-clause-image_after c = rw (← c.open_cold_boot-booted.ensures.value, c.in_ok-booted.was) c.run_all.ensures.image_after
