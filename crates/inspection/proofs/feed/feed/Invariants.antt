-- The invariant: the stage is what the bytes so far make of the one lent.
use mathlib.Core.Path.{◌≡◌}
use mathlib.Core.List.{foldl}
use lib.ListN.{take}
use Rattle.inspection.specs.Stages.{stage_of, one_byte}
use Rattle.inspection.proofs.feed.feed.Given as goal

abbrev pub invariant-loop-b : goal.invariant-loop-b
invariant-loop-b l = stage_of l.r l.saved l.scratch ≡ foldl one_byte (stage_of l.fn.reader l.fn.saved l.fn.scratch) (take l.b-index l.piece)
