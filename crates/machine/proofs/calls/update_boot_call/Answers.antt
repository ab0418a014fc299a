-- The opening is the definition's.
use Rattle.machine.specs.Call.{machine_of}
use Rattle.history.specs.Calls.{step}
use Rattle.machine.proofs.calls.update_boot_call.Goals as goal

pub returns : goal.returns
unfolding step machine_of
returns c = λ b. rw (← c.open_update_boot.ensures.value) (c.after_boot.ensures c.args.image.now b)
