-- The screen decides; its inputs are the boot's.
use mathlib.Core.Path.{ap, ◌∙◌}
use mathlib.Core.List.{[]}
use Rattle.std.specs.Prelude.{Ok}
use Rattle.std.proofs.lemmas.Result.{err_from_is_err_and}
use Rattle.opening.specs.Tasks.{cold_boot}
use Rattle.opening.specs.Lent.{boot_in}
use Rattle.table.specs.declared.Kind.TheVariants.{ColdBoot}
use Rattle.work.specs.declared.Work.{Work}
use Rattle.making.specs.declared.Values.{Values}
use Rattle.making.specs.Made.{work_with}
use Rattle.opening.specs.Works.{work_at, cold_values}
use Rattle.opening.specs.declared.Outcome.TheVariants.{Cold}
use Rattle.boot.specs.Given.{cold_ruled}
use Rattle.boot.proofs.cold.cold_work.Goals as goal

pub returns-in_err-x : goal.returns-in_err-x
unfolding cold_ruled
returns-in_err-x c =
    let a = c.args in
    let p = err_from_is_err_and c.from_residual.result c.from_residual.ensures.1 in
    rw (p.1, p.2, c.in_err-x.ensures (cold_boot (boot_in a.lent)))

pub returns : goal.returns
unfolding cold_ruled work_at
returns c =
    let a = c.args in
    let s = c.in_ok-x.ensures in
    rw (s.2 (cold_boot (boot_in a.lent)))
    (ap (λ (w : Work). Ok (w, Cold)) (c.ready_with.ensures
    ∙ ap (λ (v : Values). work_with ColdBoot v []) (c.cold_values.ensures ∙ ap cold_values s.1)))
