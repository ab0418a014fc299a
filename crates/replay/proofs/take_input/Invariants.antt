-- The invariant: the stage is that after some pieces.
use Rattle.inspection.specs.Stages.{stage_of}
use Rattle.replay.specs.Fed.{Fed}
use Rattle.replay.proofs.take_input.Given as goal

abbrev pub invariant-loop-i : goal.invariant-loop-i
invariant-loop-i g l = Fed (stage_of l.reader l.saved l.scratch)
