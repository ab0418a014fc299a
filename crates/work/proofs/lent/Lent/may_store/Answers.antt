-- `may_store` meets its contract: a return for each arm of `store_given`. Assumes nothing.
use native.Mathlib.Omega.{arith}
use lib.ListN.{length}
use borrow.Author.Tests.{eq-eqb, lt-ltb, le-ltb}
use Rattle.layout.specs.Sizes.{image_words}
use Rattle.layout.proofs.Cases.{cases}
use Rattle.work.specs.Entries.{store_given, left_of}
use Rattle.work.specs.Parts.{lent_work}
use Rattle.work.proofs.lent.Lent.may_store.Goals as goal

pub returns-then-image-ne-IMAGE_WORDS : goal.returns-then-image-ne-IMAGE_WORDS
unfolding store_given
returns-then-image-ne-IMAGE_WORDS c = search cases

pub returns-then-left-eq0 : goal.returns-then-left-eq0
unfolding store_given
returns-then-left-eq0 c =
    let a = c.args in
    rw (
      eq-eqb (length a.image.now) image_words (omega arith),
      le-ltb 0 (left_of (lent_work a.self.now))
          (omega (arith, c.left.ensures)),
    )

pub returns : goal.returns
unfolding store_given
returns c =
    let a = c.args in
    rw (
      eq-eqb (length a.image.now) image_words (omega arith),
      lt-ltb 0 (left_of (lent_work a.self.now))
          (omega (arith, c.left.ensures)),
    )
