-- The status decides both sides.
use Rattle.machine.specs.Call.{machine_of, hand_of, result_of, step_of}
use Rattle.machine.proofs.calls.after_boot.Goals as goal

pub returns-in_default : goal.returns-in_default
unfolding step_of machine_of hand_of result_of
returns-in_default c =
    λ image b. rw (c.made.ensures, c.number.ensures, c.in_default.is)

pub returns : goal.returns
unfolding step_of machine_of hand_of result_of
returns c =
    λ image b. rw (c.taken_up.ensures, c.left.ensures, c.in-Ok.is)
