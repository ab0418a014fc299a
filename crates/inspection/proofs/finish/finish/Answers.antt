-- By the tests of what is told.
use borrow.Author.Tests.{le-ltb, eq-eqb}
use Rattle.inspection.specs.Stages.{stage_of, told}
use Rattle.inspection.proofs.Reading.{told_going}
use Rattle.inspection.proofs.finish.finish.Goals as goal

pub returns-in-Some : goal.returns-in-Some
unfolding told
returns-in-Some c = rw (le-ltb _ _ c.if-reader-lt-IMAGE_BYTES.false, c.in-Some.is) c.refused-in-Some.ensures

pub returns : goal.returns
returns c =
    let x = stage_of c.args.reader c.args.saved.now c.args.scratch.now in
    rw (told_going x c.if-reader-lt-IMAGE_BYTES.false c.in_default.is, eq-eqb _ 0 c.if-reader-ne0.false) (c.judged.ensures c.args.reader)
