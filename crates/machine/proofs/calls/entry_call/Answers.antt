-- Whether a work is in hand decides both sides; the entry is the definition's.
use mathlib.Core.Path.{refl}
use Rattle.history.specs.Calls.{step}
use Rattle.machine.specs.Call.{machine_of, hand_of, result_of, step_of, buffer_after}
use Rattle.machine.proofs.calls.entry_call.Goals as goal

pub returns-in_default : goal.returns-in_default
unfolding step step_of machine_of hand_of result_of buffer_after
returns-in_default c = rw (c.made.ensures, c.in_default.is) record { step_made = λ image. refl; buffer_left = λ image. refl }

pub returns-in-Ok : goal.returns-in-Ok
unfolding step step_of machine_of hand_of result_of buffer_after
returns-in-Ok c =
    rw (
      c.made-in-Ok.ensures,
      c.in-Some.is,
      ← c.in-Ok.ensures.value,
      c.entry.ensures.buffer_after,
    ) record { step_made = λ image. refl; buffer_left = λ image. refl }

pub returns-in-Err : goal.returns-in-Err
unfolding step step_of machine_of hand_of result_of buffer_after
returns-in-Err c =
    rw (
      c.made-in-Err.ensures,
      c.from.ensures,
      c.in-Some.is,
      ← c.in-Err.ensures.value,
      c.entry.ensures.buffer_after,
    ) record { step_made = λ image. refl; buffer_left = λ image. refl }
