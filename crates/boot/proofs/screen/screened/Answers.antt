-- The image's length is the first rule; the inputs decide the second.
use lib.ListN.{length}
use borrow.Author.Tests.{ne_eqb}
use Rattle.layout.specs.Sizes.{image_words}
use Rattle.opening.specs.Lent.{boot_in}
use Rattle.boot.proofs.Accepted.{screens}
use Rattle.boot.proofs.screen.screened.Goals as goal

pub returns-then-image-ne-IMAGE_WORDS : goal.returns-then-image-ne-IMAGE_WORDS
returns-then-image-ne-IMAGE_WORDS c = λ t. rw (ne_eqb (length c.args.image.now) image_words c.if-image-ne-IMAGE_WORDS.true)

pub returns : goal.returns
returns c =
    let a = c.args in
    screens a.image.now (boot_in a.lent) c.if-image-ne-IMAGE_WORDS.false c.accepted.result c.accepted.ensures
