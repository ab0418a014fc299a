-- `left` meets its contract: what is left of the parts is left of the work that the words are. Assumes nothing.
use native.Mathlib.Omega.{arith}
use mathlib.Core.Path.{◌≡◌, ap, ◌∙◌}
use lib.ListN.{length}
use borrow.Author.Tests.{eq-eqb, ne_eqb}
use Rattle.flat.specs.Flat.{work_size, work_of}
use Rattle.flat.specs.Forms.{left_in}
use Rattle.work.specs.Entries.{left_of}
use Rattle.work.proofs.Parts.{left_storing}
use Rattle.held.proofs.left.Goals as goal

pub returns-then-work-ne-WORK_WORDS : goal.returns-then-work-ne-WORK_WORDS
unfolding left_in
returns-then-work-ne-WORK_WORDS c = rw (ne_eqb (length c.args.work.now) work_size c.if-work-ne-WORK_WORDS.true)

pub returns : goal.returns
unfolding left_in
returns c =
    let l = c.args.work.now in
    let e : length l ≡ work_size = omega arith in
    rw (eq-eqb (length l) work_size e)
    (c.left.ensures ∙ ap left_of c.lent.ensures ∙ left_storing (work_of l))
