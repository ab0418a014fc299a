-- `waggleloft_open_cold_boot` meets its contract: what the opening answers is its definition. Assumes nothing.
use Rattle.waggleloft.proofs.openings.waggleloft_open_cold_boot.Goals as goal

pub returns : goal.returns
returns c = rw c.open_cold_boot-booted.ensures.value at c.boot_into.ensures
