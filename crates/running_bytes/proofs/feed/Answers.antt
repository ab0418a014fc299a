-- `running_bytes::feed` meets its contract: the size is tested first; an accepted feed's state is written. Assumes nothing.
use Rattle.std.proofs.Common.{length, refl, sym, ap, ◌∙◌}
use borrow.Author.Tests.{eq-eqb, ne_eqb}
use Rattle.sha384.proofs.Refused.{error_not_zero}
use Rattle.running.specs.Running.{feed_result}
use Rattle.running.specs.declared.Running.{Running}
use Rattle.running_bytes.specs.Coding.{state_size}
use Rattle.running_bytes.specs.Entries.{feed_number_in, feed_bytes}
use Rattle.running_bytes.proofs.feed.Goals as goal

pub returns-then-state-ne-STATE_BYTES : goal.returns-then-state-ne-STATE_BYTES
unfolding feed_number_in feed_bytes
returns-then-state-ne-STATE_BYTES c =
    rw (ne_eqb (length c.args.state.now) state_size c.if-state-ne-STATE_BYTES.true) (record { value = refl; state_after = refl })

pub returns-in-Err : goal.returns-in-Err
unfolding feed_number_in feed_bytes
returns-in-Err c =
    let e = ap (λ (st : Running). feed_result st c.args.slice.now) (sym c.state_of-held.ensures) ∙ c.in-Err.ensures.err in
    rw (eq-eqb (length c.args.state.now) state_size c.if-state-ne-STATE_BYTES.false, e, error_not_zero c.in-Err.error)
    (record { value = c.from.ensures; state_after = refl })

pub returns-in-Ok : goal.returns-in-Ok
unfolding feed_number_in feed_bytes
returns-in-Ok c =
    let e = ap (λ (st : Running). feed_result st c.args.slice.now) (sym c.state_of-held.ensures) ∙ c.in-Ok.ensures.ok in
    rw (eq-eqb (length c.args.state.now) state_size c.if-state-ne-STATE_BYTES.false, e)
    (record { value = refl; state_after = c.put_state.ensures })
