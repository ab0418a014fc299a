-- The callees, put together; the given node is the lowest free one.
use Rattle.opening.specs.Works.{work_at}
use Rattle.request.proofs.stash.accepted.Goals as goal

pub returns : goal.returns
unfolding work_at
returns c =
    rw (
      c.ready_with.ensures,
      c.four-dpe.ensures,
      c.stash_values-values.ensures,
      ← c.requires.holder_le_node_count.1,
      ← c.requires.bytes_len.1,
    )
