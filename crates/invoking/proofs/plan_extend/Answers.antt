-- The callees, put together.
use Rattle.layout.specs.Words.{zeros}
use Rattle.invoking.proofs.Fresh.{no_fresh}
use Rattle.invoking.proofs.plan_extend.Goals as goal

pub returns : goal.returns
unfolding zeros
returns c =
    rw (
      c.node_values-values.ensures,
      c.inputs_of.ensures,
      c.with_caller-row.ensures,
      c.extended_row.ensures,
      c.bytes_in-before.ensures,
      c.named-i.ensures.value,
      no_fresh,
    )
