-- The callees, put together.
use Rattle.orders.specs.Told.{command_from}
use Rattle.opening.specs.Works.{work_at}
use Rattle.request.proofs.Invoked.{values_fresh}
use Rattle.request.proofs.invoke.accepted.Goals as goal

pub returns : goal.returns
unfolding work_at
returns c =
    let a = c.args in
    rw (
      c.ready_with.ensures,
      c.four-dpe.ensures,
      c.plan_order-planned.ensures,
      values_fresh (command_from a.order) a.fresh.now a.caller a.image.now,
    )
