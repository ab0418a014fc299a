-- The callees, put together.
use Rattle.layout.specs.Words.{zeros}
use Rattle.invoking.proofs.Fresh.{no_fresh}
use Rattle.invoking.proofs.plan_destroy.Goals as goal

pub returns : goal.returns
unfolding zeros
returns c =
    rw (
      c.node_values-values.ensures,
      c.inputs_of.ensures,
      c.with_caller-row.ensures,
      c.freed_by-freed.ensures.nodes_value,
      c.freed_by-freed.ensures.count_value,
      c.named.ensures.value,
      no_fresh,
    )
