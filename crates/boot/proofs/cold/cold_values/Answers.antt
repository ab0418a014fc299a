-- The callees, put together.
use Rattle.layout.specs.Words.{zeros}
use Rattle.boot.proofs.cold.cold_values.Goals as goal

pub returns : goal.returns
unfolding zeros
returns c =
    rw (
      c.digests_of-inputs.ensures,
      c.pack-words.ensures,
      c.node_row-node.ensures,
      c.pack-register.ensures,
      c.extend-cumulative.ensures,
      c.extend_by_boot-journey.ensures,
    )
