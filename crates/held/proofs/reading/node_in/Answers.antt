-- `node_in` meets its contract: the copy is the part of the words from the node's place on. Assumes nothing.
use native.Mathlib.Omega.{arith}
use mathlib.Core.Path.{sym, ◌∙◌}
use Rattle.layout.specs.Sizes.{node_words}
use Rattle.layout.proofs.Packing.{part_within}
use Rattle.flat.specs.Flat.{node_word, work_of}
use Rattle.held.proofs.reading.node_in.Goals as goal

pub returns : goal.returns
unfolding work_of
returns c = c.copy_from_slice.ensures.after ∙ sym (part_within node_words c.args.words.now node_word (omega (arith, c.requires)))
