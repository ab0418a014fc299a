-- The eight words of FIPS 180-4, section 5.3.4: by computation.
use mathlib.Core.Path.{refl}
use Rattle.sha384.specs.Constants.{initial_of}
use Rattle.sha384.proofs.constants.initial.Goals as goal

pub returns : goal.returns
unfolding initial_of
returns c = refl
