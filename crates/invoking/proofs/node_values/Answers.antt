-- Arrays of zeros.
use mathlib.Core.Path.{refl}
use Rattle.layout.specs.Words.{zeros}
use Rattle.invoking.proofs.node_values.Goals as goal

pub returns : goal.returns
unfolding zeros
returns c = refl
