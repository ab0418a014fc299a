-- Two extensions are those of a list of two.
use Rattle.sha384.specs.Entries.{extended_by_each}
use Rattle.boot.proofs.inputs.extend_by_boot.Goals as goal

pub returns : goal.returns
unfolding extended_by_each
returns c = rw (c.extend-2.ensures, c.extend.ensures)
