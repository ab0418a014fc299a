-- All of the part that is there, and else what there is of it over a run of the last element.
use Rattle.std.proofs.Common.{◌∙◌, ◌-◌, ◌++◌, length, take, replicate, refl, ap, arith}
use Rattle.slices.proofs.Filled.{got, all_there, some_there}
use Rattle.slices.proofs.parts.part_of.Goals as goal

pub returns-in-Some : goal.returns-in-Some
returns-in-Some g c =
    let from = c.unwrap_or-from.result in
    let first = c.in-Some.ensures.cases in
    let e = got c.args.at c.args.s.now c.get.result _ from c.unwrap_or-from.ensures refl c.get.ensures.lookup in
    all_there g.row.N c.args.rest from.now _ first.enough first.same ∙ ap (λ l. take g.row.N l ++ replicate (g.row.N - length l) c.args.rest) e

pub returns : goal.returns
returns g c =
    let from = c.unwrap_or-from.result in
    let e = got c.args.at c.args.s.now c.get.result _ from c.unwrap_or-from.ensures refl c.get.ensures.lookup in
    some_there g.row.N c.args.rest from.now _ (omega (arith, c.in_default.ensures.cases)) c.copy_from_slice.ensures.after
    ∙ ap (λ l. take g.row.N l ++ replicate (g.row.N - length l) c.args.rest) e
