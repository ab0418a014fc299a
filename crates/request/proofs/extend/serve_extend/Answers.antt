-- Each exit is one line of the command's rules: a register outside, off, neither.
use mathlib.Core.Path.{ap}
use Rattle.std.specs.Prelude.{Ok}
use lib.ListN.{get_or}
use borrow.Author.Tests.{eq-eqb, ne_eqb}
use Rattle.layout.specs.Sizes.{attestation_at}
use Rattle.layout.proofs.Cases.{told}
use Rattle.opening.specs.Openings.{view_in}
use Rattle.request.specs.Screen.{screened_opened}
use Rattle.request.proofs.extend.serve_extend.Goals as goal

pub returns-then-not-may_extend : goal.returns-then-not-may_extend
unfolding screened_opened view_in
returns-then-not-may_extend c =
    rw (← c.register_in-register.ensures, told c.may_extend.ensures c.if-not-may_extend.true)

pub returns-then-image-ne1 : goal.returns-then-image-ne1
unfolding screened_opened view_in
returns-then-image-ne1 c =
    rw (
      ← c.register_in-register.ensures,
      told c.may_extend.ensures c.if-not-may_extend.false,
      ne_eqb (get_or c.args.image.now attestation_at 0) 1 c.if-image-ne1.true,
    )

pub returns : goal.returns
unfolding screened_opened view_in
returns c =
    let a = c.args in
    let e = c.register_in-register.ensures in
    rw (
      rw e at (told c.may_extend.ensures c.if-not-may_extend.false),
      eq-eqb (get_or a.image.now attestation_at 0) 1 c.if-image-ne1.false,
    ) (ap Ok c.accepted.ensures)
