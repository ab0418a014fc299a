-- `running_bytes::begin` meets its contract: the size is tested first. Assumes nothing.
use Rattle.std.proofs.Common.{length, refl, ap, ◌∙◌}
use borrow.Author.Tests.{eq-eqb, ne_eqb}
use Rattle.running_bytes.specs.Coding.{state_size, state_bytes}
use Rattle.running_bytes.specs.Entries.{begin_number_in, begin_bytes}
use Rattle.running_bytes.proofs.begin.Goals as goal

pub returns-then-state-ne-STATE_BYTES : goal.returns-then-state-ne-STATE_BYTES
unfolding begin_number_in begin_bytes
returns-then-state-ne-STATE_BYTES c =
    rw (ne_eqb (length c.args.state.now) state_size c.if-state-ne-STATE_BYTES.true) (record { value = refl; state_after = refl })

pub returns : goal.returns
unfolding begin_number_in begin_bytes
returns c =
    rw (eq-eqb (length c.args.state.now) state_size c.if-state-ne-STATE_BYTES.false)
    (record { value = refl; state_after = c.put_state.ensures ∙ ap state_bytes c.begin.ensures })
