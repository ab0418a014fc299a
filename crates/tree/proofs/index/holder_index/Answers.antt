-- The default handle's words.
use Rattle.tree.proofs.index.holder_index.Goals as goal

pub returns : goal.returns
returns c = c.handle_index.ensures
