-- A request and a boot's inputs, as they are lent to the code. Assumes nothing.
use Rattle.opening.specs.Tasks.{Request, BootInputs, request_of, boot_of}
use Rattle.opening.specs.declared.inputs.RequestInputs.{RequestInputs}
use Rattle.opening.specs.declared.inputs.BootInputs as declared

abbrev pub request_in : RequestInputs → Request
request_in r = request_of r.code r.bytes.now r.caller r.handoff.now r.verdict r.fresh.now

abbrev pub boot_in : declared.BootInputs → BootInputs
boot_in x = boot_of x.runtime.now x.manifest.now x.secret.now
