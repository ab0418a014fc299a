-- The retired handle's words.
use Rattle.tree.proofs.node.Node.is_retired.Goals as goal

pub returns : goal.returns
returns c = c.has_handle.ensures
