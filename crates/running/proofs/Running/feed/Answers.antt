-- `running::Running::feed` meets its contract: refused, or one of the two ways to take a slice. Assumes nothing.
use Rattle.std.proofs.Common.{length, sym, ap, ◌∙◌, arith}
use Rattle.std.specs.Prelude.{Ok}
use Rattle.std.proofs.lemmas.Result.{err_from_is_err_and}
use Rattle.running.specs.Running.{admitted, fed_of, feed_result}
use Rattle.running.proofs.Agreeing.{accepted, made, refused}
use Rattle.running.proofs.Running.feed.Goals as goal

pub returns-in_err-admit-clause-err : goal.returns-in_err-admit-clause-err
unfolding feed_result
returns-in_err-admit-clause-err c =
    let st = c.args.self.now in
    let m = c.args.slice.now in
    let p = err_from_is_err_and c.from_residual.result c.from_residual.ensures.1 in
    rw (p.1, p.2) (refused st (length m) (fed_of st m) c.in_err-admit.field-0.0 (sym c.admit.ensures ∙ c.in_err-admit.was))

pub overflow_add-self : goal.overflow_add-self
overflow_add-self c = omega (arith, (accepted c.args.self.now (length c.args.slice.now) (sym c.admit.ensures ∙ c.in_ok-admit.was)).0)

pub keep-requires : goal.keep-requires
keep-requires c =
    let ok = accepted c.args.self.now (length c.args.slice.now) (sym c.admit.ensures ∙ c.in_ok-admit.was) in
    (c.if-self-slice-lt128.true, omega (arith, ok.1))

pub absorb-requires-clause-waiting_bound : goal.absorb-requires-clause-waiting_bound
absorb-requires-clause-waiting_bound c =
    let ok = accepted c.args.self.now (length c.args.slice.now) (sym c.admit.ensures ∙ c.in_ok-admit.was) in
    (ok.0, c.if-self-slice-lt128.false)

pub absorb-requires-clause-slice_bound : goal.absorb-requires-clause-slice_bound
absorb-requires-clause-slice_bound c =
    (accepted c.args.self.now (length c.args.slice.now) (sym c.admit.ensures ∙ c.in_ok-admit.was)).1

pub returns-then-self-slice-lt128-clause-ok : goal.returns-then-self-slice-lt128-clause-ok
unfolding feed_result
returns-then-self-slice-lt128-clause-ok c =
    let st = c.args.self.now in
    let m = c.args.slice.now in
    made st (length m) (fed_of st m) (sym c.admit.ensures ∙ c.in_ok-admit.was) ∙ ap Ok (sym c.keep.ensures)

pub returns-else-self-slice-lt128-clause-ok : goal.returns-else-self-slice-lt128-clause-ok
unfolding feed_result
returns-else-self-slice-lt128-clause-ok c =
    let st = c.args.self.now in
    let m = c.args.slice.now in
    made st (length m) (fed_of st m) (sym c.admit.ensures ∙ c.in_ok-admit.was) ∙ ap Ok (sym c.absorb.ensures)
