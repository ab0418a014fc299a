-- The answer is what the rules gave.
use Rattle.opening.specs.Tasks.{boot_of}
use Rattle.boot.proofs.Ruled.{cold_answer}
use Rattle.boot.proofs.cold.open_cold_boot.Goals as goal

pub returns : goal.returns
returns c =
    let a = c.args in
    let p = cold_answer a.image.now (boot_of a.runtime.now a.manifest.now a.secret.now) c.from.result (rw c.cold_work.ensures at c.from.ensures) in
    record { value = p.0; status_value = p.1.0; status_value_2 = p.1.1 }
