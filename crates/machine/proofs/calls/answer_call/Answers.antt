-- Whether a work is present decides both sides; the answer is the definition's.
use mathlib.Core.Path.{refl, sym, ◌∙◌}
use Rattle.work.proofs.Answered.{given_result, declined_result}
use Rattle.history.specs.Calls.{step}
use Rattle.machine.specs.Call.{machine_of, hand_of, result_of, step_of, buffer_after}
use Rattle.machine.proofs.calls.answer_call.Goals as goal

pub returns-in_default : goal.returns-in_default
unfolding step step_of machine_of hand_of result_of buffer_after
returns-in_default c = rw (c.made.ensures, c.in_default.is) record { step_made = λ image. refl; buffer_left = λ image. refl }

pub returns-in-Ok : goal.returns-in-Ok
unfolding step step_of machine_of hand_of result_of buffer_after
returns-in-Ok c =
    rw (
      c.made-in-Ok.ensures,
      c.in-Some.is,
      given_result c.in-Some.held.work c.args.buffer.now (sym c.answer.ensures.value ∙ c.in-Ok.is),
      c.answer.ensures.buffer_after,
    ) record { step_made = λ image. refl; buffer_left = λ image. refl }

pub returns-in-Err : goal.returns-in-Err
unfolding step step_of machine_of hand_of result_of buffer_after
returns-in-Err c =
    rw (
      c.made-in-Err.ensures,
      c.in-Some.is,
      declined_result c.in-Some.held.work c.args.buffer.now (sym c.answer.ensures.value ∙ c.in-Err.is),
      c.from.ensures,
      c.answer.ensures.buffer_after,
    ) record { step_made = λ image. refl; buffer_left = λ image. refl }
