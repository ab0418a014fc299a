-- Whether a work is present, and then what the store gives, decide both sides.
use mathlib.Core.Path.{refl, sym, ◌∙◌}
use Rattle.layout.proofs.Told.{refused_ne}
use Rattle.work.proofs.Numbered.{handed_result, kept_result}
use Rattle.history.specs.Calls.{step}
use Rattle.machine.specs.Call.{machine_of, hand_of, result_of, step_of}
use Rattle.machine.proofs.calls.store_call.Goals as goal

pub returns-in_default : goal.returns-in_default
unfolding step step_of machine_of hand_of result_of
returns-in_default c = λ b. rw (c.made.ensures, c.in_default.is) (rw (machine_of, c.in_default.is))

pub returns-in-Err : goal.returns-in-Err
unfolding step step_of machine_of hand_of result_of
returns-in-Err c =
    λ b. rw (
      c.made-in-Err.ensures,
      c.in-Some.is,
      ← c.store.ensures.image_after,
      kept_result c.in-Some.held.work c.args.image.now (sym c.store.ensures.value ∙ c.in-Err.is),
      c.from.ensures,
      refused_ne c.in-Err.refusal,
    ) refl

pub returns-in-Ok : goal.returns-in-Ok
unfolding step step_of machine_of hand_of result_of
returns-in-Ok c =
    λ b. rw (
      c.taken_up.ensures,
      c.in-Some.is,
      c.left.ensures,
      ← c.store.ensures.image_after,
      handed_result c.in-Some.held.work c.args.image.now (sym c.store.ensures.value ∙ c.in-Ok.is),
    ) refl
