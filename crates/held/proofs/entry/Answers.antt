-- `entry` meets its contract, by the laws of Recorded: a return for a wrong length, and one for what is given. Assumes nothing.
use native.Mathlib.Omega.{arith}
use mathlib.Core.Path.{◌≡◌, ◌∙◌}
use lib.ListN.{length}
use borrow.Author.Tests.{ne_eqb}
use Rattle.flat.specs.Flat.{work_size}
use Rattle.flat.specs.Forms.{entry_number_in, entry_written, entry_buffer_in}
use Rattle.held.proofs.Recorded.{number_in, written_in, buffer_in_law}
use Rattle.held.proofs.entry.Goals as goal

pub returns-then-work-ne-WORK_WORDS : goal.returns-then-work-ne-WORK_WORDS
unfolding entry_number_in entry_written entry_buffer_in
returns-then-work-ne-WORK_WORDS c =
    let wrong = c.if-work-ne-WORK_WORDS.true in
    record {
      value = rw (ne_eqb (length c.args.work.now) work_size wrong);
      written_after = rw (ne_eqb (length c.args.work.now) work_size wrong);
      buffer_after = rw (ne_eqb (length c.args.work.now) work_size wrong);
    }

pub returns : goal.returns
returns c =
    let g = c.args in
    let l : length g.work.now ≡ work_size = omega arith in
    let x = c.entry_from.result in
    let e = c.entry_from.ensures in
    record {
      value = c.hand_on.ensures.value ∙ number_in g.work.now g.buffer.now l x e.value;
      written_after = c.hand_on.ensures.written_after ∙ written_in g.work.now g.buffer.now l x e.value _;
      buffer_after = buffer_in_law g.work.now g.buffer.now _ l e.buffer_after;
    }
