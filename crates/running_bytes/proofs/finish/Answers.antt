-- `running_bytes::finish` meets its contract: a return for each refusal in order; the copy of 48 bytes over the front of the buffer is the digest
-- before what was behind it. Assumes nothing.
use Rattle.std.proofs.Common.{◌≡◌, List, ℕ, ◌++◌, length, drop, refl, sym, ap, ◌∙◌, rules, length-take-le}
use borrow.Author.Tests.{eq-eqb, ne_eqb, lt-ltb, le-ltb}
use Rattle.sha384.proofs.Refused.{error_not_zero}
use Rattle.running.specs.Running.{finish_result}
use Rattle.running_bytes.specs.Coding.{state_size}
use Rattle.running_bytes.specs.Entries.{finish_number_in, finish_buffer}
use Rattle.running_bytes.proofs.finish.Goals as goal

pub returns-then-state-ne-STATE_BYTES : goal.returns-then-state-ne-STATE_BYTES
unfolding finish_number_in finish_buffer
returns-then-state-ne-STATE_BYTES c =
    rw (ne_eqb (length c.args.state.now) state_size c.if-state-ne-STATE_BYTES.true) (record { value = refl; buffer_after = refl })

pub returns-in-Err : goal.returns-in-Err
unfolding finish_number_in finish_buffer
returns-in-Err c =
    let e = c.in-Err.ensures ∙ ap finish_result c.state_of.ensures in
    rw (eq-eqb (length c.args.state.now) state_size c.if-state-ne-STATE_BYTES.false, ← e, error_not_zero c.in-Err.error, error_not_zero c.in-Err.error)
    (record { value = c.from.ensures; buffer_after = refl })

pub returns-then-buffer-lt48 : goal.returns-then-buffer-lt48
unfolding finish_number_in finish_buffer
returns-then-buffer-lt48 c =
    let e = c.in-Ok.ensures ∙ ap finish_result c.state_of.ensures in
    rw (eq-eqb (length c.args.state.now) state_size c.if-state-ne-STATE_BYTES.false, ← e, lt-ltb (length c.args.buffer.now) 48 c.if-buffer-lt48.true)
    (record { value = refl; buffer_after = refl })

pub copy_from_slice-requires : goal.copy_from_slice-requires
copy_from_slice-requires c =
    let long : length c.in-Ok.digest ≡ 48 = search rules in
    length-take-le 48 c.args.buffer.now c.if-buffer-lt48.false ∙ sym long

pub returns : goal.returns
unfolding finish_number_in finish_buffer
returns c =
    let b = c.args.buffer.now in
    let e = c.in-Ok.ensures ∙ ap finish_result c.state_of.ensures in
    rw (eq-eqb (length c.args.state.now) state_size c.if-state-ne-STATE_BYTES.false, ← e, le-ltb (length b) 48 c.if-buffer-lt48.false)
    (record { value = refl; buffer_after = ap (λ (l : List ℕ). l ++ drop 48 b) c.copy_from_slice.ensures.after })
