-- The image's length is the first rule and the inputs decide the second; then the image and the verdict.
use borrow.Author.Tests.{ne_eqb}
use lib.ListN.{length}
use Rattle.std.specs.Prelude.{Ok, Err}
use Rattle.std.proofs.lemmas.Result.{err_from_is_err_and}
use Rattle.layout.specs.Sizes.{image_words}
use Rattle.layout.proofs.Cases.{told}
use Rattle.opening.specs.Lent.{boot_in}
use Rattle.opening.specs.Rules.{update_task}
use Rattle.opening.specs.Works.{work_at}
use Rattle.opening.specs.Openings.{intact}
use Rattle.boot.specs.Given.{update_ruled}
use Rattle.boot.proofs.Accepted.{screens}
use Rattle.boot.proofs.update.update_work.Goals as goal

pub returns-then-image-ne-IMAGE_WORDS : goal.returns-then-image-ne-IMAGE_WORDS
unfolding update_ruled
returns-then-image-ne-IMAGE_WORDS c = rw (ne_eqb (length c.args.image.now) image_words c.if-image-ne-IMAGE_WORDS.true)

pub returns-in_err-x : goal.returns-in_err-x
unfolding update_ruled
returns-in_err-x c =
    let a = c.args in
    let p = err_from_is_err_and c.from_residual.result c.from_residual.ensures.1 in
    rw (
      p.1,
      p.2,
      screens a.image.now (boot_in a.lent) c.if-image-ne-IMAGE_WORDS.false (Err _) c.in_err-x.ensures (update_task (intact a.image.now) a.verdict (boot_in a.lent)),
    )

pub returns-then-not-is_intact : goal.returns-then-not-is_intact
unfolding update_ruled work_at
returns-then-not-is_intact c =
    let a = c.args in
    let s = screens a.image.now (boot_in a.lent) c.if-image-ne-IMAGE_WORDS.false (Ok _) c.in_ok-x.ensures in
    rw (
      s.2 (update_task (intact a.image.now) a.verdict (boot_in a.lent)),
      told c.is_intact.ensures c.if-not-is_intact.true,
      c.bare_work.ensures,
    )

pub returns-then-not-verdict : goal.returns-then-not-verdict
unfolding update_ruled work_at
returns-then-not-verdict c =
    let a = c.args in
    let s = screens a.image.now (boot_in a.lent) c.if-image-ne-IMAGE_WORDS.false (Ok _) c.in_ok-x.ensures in
    rw (
      s.2 (update_task (intact a.image.now) a.verdict (boot_in a.lent)),
      told c.is_intact.ensures c.if-not-is_intact.false,
      c.if-not-verdict.true,
      c.bare_work-then-not-verdict.ensures,
    )

pub returns : goal.returns
unfolding update_ruled
returns c =
    let a = c.args in
    let s = screens a.image.now (boot_in a.lent) c.if-image-ne-IMAGE_WORDS.false (Ok _) c.in_ok-x.ensures in
    rw (
      s.2 (update_task (intact a.image.now) a.verdict (boot_in a.lent)),
      told c.is_intact.ensures c.if-not-is_intact.false,
      c.if-not-verdict.false,
      ← s.1,
      c.updated.ensures,
    )
