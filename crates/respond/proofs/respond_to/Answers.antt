-- Refused, the result stands alone. Ready, the work is well shaped, so that after all its stores it is finished.
use Prim.Native.Nat.{ℕ}
use mathlib.Core.Path.{ap, ◌∙◌}
use mathlib.Core.List.{List}
use lib.ListN.{length, replicate}
use Rattle.std.specs.Prelude.{⊤}
use Rattle.opening.specs.Openings.{open_request}
use Rattle.opening.specs.declared.Opened.{Opened}
use Rattle.respond.specs.Program.{response_max, request_in, written, output_of, response_of}
use Rattle.respond.proofs.Cold.{cold_length}
use Rattle.respond.proofs.Ready.{ready_finished}
use Rattle.respond.proofs.Output.{response_with, refused_output, ready_written}
use Rattle.respond.proofs.respond_to.Goals as goal

pub returns-in_default : goal.returns-in_default
unfolding output_of written
returns-in_default c =
    let o = c.open-opened.result in
    c.with_result.ensures
    ∙ ap (λ (n : ℕ). response_with n 0 (replicate response_max 0)) c.number.ensures
    ∙ refused_output o.work o.status c.in_default.field-0 c.in_default.is
    ∙ ap (λ (x : Opened ⊤). response_of (written x)) (c.open-opened.ensures
    ∙ ap (λ (i : List ℕ). open_request i (request_in c.args.input.now)) c.cold_image-image.ensures)

pub answered-requires : goal.answered-requires
answered-requires c =
    let image = c.cold_image-image in
    ready_finished image.result (request_in c.args.input.now) c.open-opened.result c.open-opened.ensures
    c.in-Ok.is (ap length image.ensures ∙ cold_length)

pub returns : goal.returns
unfolding output_of written
returns c =
    let o = c.open-opened.result in
    c.answered.ensures
    ∙ ap response_of (ready_written o.work o.status c.in-Ok.is)
    ∙ ap (λ (x : Opened ⊤). response_of (written x)) (c.open-opened.ensures
    ∙ ap (λ (i : List ℕ). open_request i (request_in c.args.input.now)) c.cold_image-image.ensures)
