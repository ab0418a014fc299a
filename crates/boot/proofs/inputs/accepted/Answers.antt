-- The first 48 bytes of an accepted input are all of it.
use Rattle.layout.proofs.Cases.{told}
use Rattle.opening.specs.Tasks.{BootInputs}
use Rattle.opening.specs.Lent.{boot_in}
use Rattle.boot.proofs.Sizes.{runtime_whole, manifest_whole, secret_whole}
use Rattle.boot.proofs.inputs.accepted.Goals as goal

pub returns-then-not-inputs_ok : goal.returns-then-not-inputs_ok
returns-then-not-inputs_ok c = rw (told c.inputs_ok.ensures c.if-not-inputs_ok.true)

pub returns : goal.returns
returns c =
    let a = c.args in
    let x : BootInputs = boot_in a.lent in
    let ok = told c.inputs_ok.ensures c.if-not-inputs_ok.false in
    rw (
      ok,
      c.bytes_of-3.ensures,
      c.bytes_of-2.ensures,
      c.bytes_of.ensures,
      runtime_whole x ok,
      manifest_whole x ok,
      secret_whole x ok,
    )
