-- The callees, put together.
use Rattle.layout.specs.Words.{zeros}
use Rattle.opening.specs.Works.{register_in}
use Rattle.boot.proofs.update.update_values.Goals as goal

pub returns : goal.returns
unfolding register_in zeros
returns c =
    rw (
      c.digests_of-inputs.ensures,
      c.pack-kept.ensures,
      c.extended_row-node.ensures,
      c.bytes_in-before.ensures,
      c.pack-words.ensures,
      c.pack-register.ensures,
      c.extend_by_boot-journey.ensures,
      c.bytes_in.ensures,
      c.extend_by_boot-current.ensures,
      ← c.requires.1,
    )
