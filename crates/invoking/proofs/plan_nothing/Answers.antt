-- Values of zeros.
use Rattle.invoking.proofs.plan_nothing.Goals as goal

pub returns : goal.returns
returns c = rw c.no_values-values.ensures
