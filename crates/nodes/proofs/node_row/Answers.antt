-- The handle's words are the definition's.
use Rattle.nodes.specs.Record.{node_row}
use Rattle.nodes.proofs.node_row.Goals as goal

pub returns : goal.returns
unfolding node_row
returns c = rw (c.handle_words.ensures, c.from.ensures) at c.row_of.ensures
