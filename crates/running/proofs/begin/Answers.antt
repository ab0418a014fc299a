-- `running::begin` meets its contract: the initial hash value, and nothing counted. Assumes nothing.
use mathlib.Core.Path.{ap}
use mathlib.Core.List.{List}
use Prim.Native.Nat.{ℕ}
use lib.ListN.{replicate}
use Rattle.running.specs.Running.{begun}
use Rattle.running.proofs.begin.Goals as goal

pub returns : goal.returns
unfolding begun
returns c = ap (λ (h : List ℕ). record { total = 0; waiting = 0; buffer = replicate 128 0; hash = h }) c.initial-hash.ensures
