-- Nothing seen, nothing refused, nothing waiting.
use mathlib.Core.Path.{refl}
use Rattle.layout.specs.Words.{zeros}
use Rattle.inspection.specs.Stages.{begun}
use Rattle.inspection.proofs.reader.begin.Goals as goal

pub returns : goal.returns
unfolding begun zeros
returns c = refl
