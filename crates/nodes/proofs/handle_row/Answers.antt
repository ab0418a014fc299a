-- The handle's words are the definition's, and the measurements' are zero.
use Rattle.nodes.proofs.Rows.{zero48}
use Rattle.nodes.proofs.handle_row.Goals as goal

pub returns : goal.returns
returns c = rw (c.handle_words.ensures, zero48) at c.row_of.ensures
