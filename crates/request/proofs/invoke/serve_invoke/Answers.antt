-- Each exit is one line of the command's rules: off, not well formed, its first ground (`by_ground`), none.
use mathlib.Core.Path.{ap}
use Rattle.std.specs.Prelude.{Ok}
use lib.ListN.{get_or}
use borrow.Author.Tests.{eq-eqb, ne_eqb}
use Rattle.layout.specs.Sizes.{attestation_at}
use Rattle.layout.proofs.Cases.{told}
use Rattle.layout.specs.Words.{bytes4}
use Rattle.opening.specs.Rules.{answer_of}
use Rattle.opening.specs.Works.{work_at}
use Rattle.opening.specs.Openings.{view_in}
use Rattle.layout.specs.Refusals.{decline_number}
use Rattle.grounds.specs.Ground.{dpe_result}
use Rattle.grounds.proofs.Parted.{not_accepted}
use Rattle.request.specs.Screen.{screened_opened}
use Rattle.request.proofs.Invoked.{by_ground, ground_found, work_found}
use Rattle.request.proofs.invoke.serve_invoke.Goals as goal

pub returns-then-image-ne1 : goal.returns-then-image-ne1
unfolding screened_opened view_in work_at
returns-then-image-ne1 c =
    rw (ne_eqb (get_or c.args.image.now attestation_at 0) 1 c.if-image-ne1.true) (ap Ok c.declined.ensures)

pub returns-then-not-well_formed : goal.returns-then-not-well_formed
unfolding screened_opened view_in work_at
returns-then-not-well_formed c =
    let a = c.args in
    rw (
      eq-eqb (get_or a.image.now attestation_at 0) 1 c.if-image-ne1.false,
      told c.well_formed-2.ensures c.if-not-well_formed.true,
    )

-- what the callee found is the rules' ground
pub returns-in-Err : goal.returns-in-Err
unfolding work_at
returns-in-Err c =
    let a = c.args in
    let image = a.image.now in
    let bytes = a.bytes.now in
    let fresh = a.fresh.now in
    let read = c.read_order-order in
    rw (
      by_ground image bytes a.caller fresh
          (eq-eqb (get_or image attestation_at 0) 1 c.if-image-ne1.false)
          (told c.well_formed-2.ensures c.if-not-well_formed.false),
      ← ground_found image bytes a.caller fresh read.result read.ensures (dpe_result c.ground.result) c.ground.ensures,
      c.in-Err.is,
      ne_eqb (decline_number c.in-Err.decline) 0 (not_accepted c.in-Err.decline),
    ) (ap Ok c.declined-in-Err.ensures)

pub returns : goal.returns
returns c =
    let a = c.args in
    let image = a.image.now in
    let bytes = a.bytes.now in
    let fresh = a.fresh.now in
    let read = c.read_order-order in
    rw (
      by_ground image bytes a.caller fresh
          (eq-eqb (get_or image attestation_at 0) 1 c.if-image-ne1.false)
          (told c.well_formed-2.ensures c.if-not-well_formed.false),
      ← ground_found image bytes a.caller fresh read.result read.ensures (dpe_result c.ground.result) c.ground.ensures,
      c.in_default.is,
    ) (ap Ok (work_found image bytes a.caller fresh read.result read.ensures (answer_of (bytes4 0)) c.accepted.result c.accepted.ensures))
