-- A byte of the saved image, stored where the lent bytes reach, or one of the journal.
use native.Mathlib.Omega.{arith}
use lib.Seq.{set_out}
use borrow.Author.Tests.{lt-ltb, le-ltb}
use Rattle.replaying.specs.Report.{image_bytes}
use Rattle.inspection.specs.Stages.{one_byte}
use Rattle.inspection.proofs.feed.push.Goals as goal

pub returns-then-seen-ge-IMAGE_BYTES : goal.returns-then-seen-ge-IMAGE_BYTES
unfolding one_byte
returns-then-seen-ge-IMAGE_BYTES c =
    rw (le-ltb c.args.reader.now.seen image_bytes c.if-seen-ge-IMAGE_BYTES.true) (c.push_journal.ensures c.args.saved.now)

pub returns-then-seen-saved : goal.returns-then-seen-saved
unfolding one_byte
returns-then-seen-saved c = rw (lt-ltb c.args.reader.now.seen image_bytes c.if-seen-ge-IMAGE_BYTES.false)

pub returns-else-seen-saved : goal.returns-else-seen-saved
unfolding one_byte
returns-else-seen-saved c =
    rw
    (lt-ltb c.args.reader.now.seen image_bytes c.if-seen-ge-IMAGE_BYTES.false, set_out c.args.saved.now c.args.reader.now.seen c.args.b (omega arith))
