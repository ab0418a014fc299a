-- One word is stored.
use mathlib.Core.Path.{refl}
use Rattle.invoking.proofs.rows.with_caller.Goals as goal

pub returns : goal.returns
returns c = refl
