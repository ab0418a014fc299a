-- `lent` meets its contract: the lent slices are the parts of the work that the words are (Stored, `parts`). Assumes nothing.
use Rattle.held.proofs.Stored.{parts}
use Rattle.held.proofs.lent.Goals as goal

pub returns : goal.returns
returns c = parts c.args.work.now c.requires _ _ _ c.kind_in.ensures c.position_in.ensures c.answer_len_in.ensures
