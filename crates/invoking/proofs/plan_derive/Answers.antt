-- The callees, put together; the fresh handle's words are those of its bytes.
use Rattle.invoking.proofs.Fresh.{child_of_part}
use Rattle.invoking.proofs.plan_derive.Goals as goal

pub returns : goal.returns
returns c =
    rw (
      c.node_values-values.ensures,
      c.inputs_of.ensures,
      c.child_row-row.ensures,
      c.fresh_bytes-child.ensures,
      c.derive_kind-kind.ensures,
      c.free_index-node.ensures.value,
      c.named-parent.ensures.value,
      child_of_part,
    )
