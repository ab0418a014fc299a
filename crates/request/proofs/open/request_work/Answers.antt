-- The first tests are the first rules; then the command and the screen decide (`by_screen`).
use mathlib.Core.Path.{sym, ap, ◌∙◌}
use lib.ListN.{length, get_or}
use borrow.Author.Tests.{eq-eqb, ne_eqb}
use Rattle.std.proofs.lemmas.Result.{err_from_is_err_and}
use Rattle.layout.specs.Sizes.{image_words, mark_at}
use Rattle.opening.specs.Lent.{request_in}
use Rattle.opening.specs.Openings.{view_in}
use Rattle.request.specs.Screen.{row_of, request_ruled, told}
use Rattle.request.proofs.Order.{unknown, by_screen, screened_length, row_known}
use Rattle.request.proofs.open.request_work.Goals as goal

pub returns-then-image-ne-IMAGE_WORDS : goal.returns-then-image-ne-IMAGE_WORDS
unfolding request_ruled view_in
returns-then-image-ne-IMAGE_WORDS c = rw (ne_eqb (length c.args.image.now) image_words c.if-image-ne-IMAGE_WORDS.true)

pub returns-then-image-ne1 : goal.returns-then-image-ne1
unfolding request_ruled view_in
returns-then-image-ne1 c =
    rw (
      eq-eqb (length c.args.image.now) image_words c.if-image-ne-IMAGE_WORDS.false,
      ne_eqb (get_or c.args.image.now mark_at 0) 1 c.if-image-ne1.true,
    )

pub returns-in_err-command : goal.returns-in_err-command
returns-in_err-command c =
    let a = c.args in
    let r = request_in a.lent in
    let p = err_from_is_err_and c.from_residual.result c.from_residual.ensures.1 in
    let e = c.in_err-command.ensures in
    rw (p.1, p.2, e.1) (ap told (sym (unknown a.image.now r c.if-image-ne-IMAGE_WORDS.false c.if-image-ne1.false e.0)))

pub returns-in_err-screen : goal.returns-in_err-screen
returns-in_err-screen c =
    let a = c.args in
    let r = request_in a.lent in
    let k = c.in_ok-command.command in
    let p = err_from_is_err_and c.from_residual-in_err-screen.result c.from_residual-in_err-screen.ensures.1 in
    rw (p.1, p.2) (ap told (sym (by_screen a.image.now r c.if-image-ne-IMAGE_WORDS.false c.if-image-ne1.false (row_of k) _
    (c.in_ok-command.ensures) (row_known k) (c.in_err-screen.ensures))))

pub serve-requires : goal.serve-requires
serve-requires c =
    let a = c.args in
    (c.if-image-ne-IMAGE_WORDS.false, screened_length (row_of c.in_ok-command.command) a.lent.code a.lent.bytes.now (c.in_ok-screen.ensures))

pub returns-in_err-work : goal.returns-in_err-work
returns-in_err-work c =
    let a = c.args in
    let r = request_in a.lent in
    let k = c.in_ok-command.command in
    let p = err_from_is_err_and c.from_residual-in_err-work.result c.from_residual-in_err-work.ensures.1 in
    rw (p.1, p.2) (ap told (c.in_err-work.ensures
    ∙ sym (by_screen a.image.now r c.if-image-ne-IMAGE_WORDS.false c.if-image-ne1.false (row_of k) _
    (c.in_ok-command.ensures) (row_known k) (c.in_ok-screen.ensures))))

pub returns : goal.returns
returns c =
    let a = c.args in
    let r = request_in a.lent in
    let k = c.in_ok-command.command in
    ap told (c.in_ok-work.ensures
    ∙ sym (by_screen a.image.now r c.if-image-ne-IMAGE_WORDS.false c.if-image-ne1.false (row_of k) _
    (c.in_ok-command.ensures) (row_known k) (c.in_ok-screen.ensures)))
