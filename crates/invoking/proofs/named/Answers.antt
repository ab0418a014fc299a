-- The handle's words are the definition's.
use Rattle.invoking.proofs.named.Goals as goal

pub returns : goal.returns
returns c = rw c.handle_words.ensures at c.handle_index.ensures
