-- Both sides compute.
use Rattle.history.specs.Calls.{step}
use Rattle.machine.specs.Call.{machine_of, hand_of, result_of, step_of}
use Rattle.machine.proofs.calls.cut_call.Goals as goal

pub returns : goal.returns
unfolding step step_of machine_of hand_of result_of
returns c = λ image b. rw c.made.ensures
