-- The callees, put together; the fresh handle's words are those of its bytes.
use Rattle.layout.specs.Words.{zeros}
use Rattle.invoking.proofs.Fresh.{row_of_part}
use Rattle.invoking.proofs.plan_rotate.Goals as goal

pub returns : goal.returns
unfolding zeros
returns c =
    rw (
      c.node_values-values.ensures,
      c.inputs_of.ensures,
      c.with_caller-row.ensures,
      c.handle_row.ensures,
      c.fresh_bytes-next.ensures,
      c.named-i.ensures.value,
      row_of_part,
    )
