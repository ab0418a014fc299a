-- A piece more, and what is told in the end.
use mathlib.Core.Path.{ap}
use mathlib.Core.List.{[]}
use Rattle.layout.specs.Sizes.{image_words}
use Rattle.layout.specs.Words.{zeros}
use Rattle.replaying.specs.Report.{image_bytes}
use Rattle.inspection.specs.declared.reader.Reader.{Reader}
use Rattle.inspection.specs.Stages.{stage_of}
use Rattle.replay.proofs.Fed.{fed_on, tells}
use Rattle.replay.proofs.take_input.Goals as goal
use Rattle.replay.proofs.take_input.Goals.{else-loop-i-test, then-loop-i-test+in_ok-n+then-n-lt-PIECE}

pub loop-i-init : goal.loop-i-init
unfolding zeros
loop-i-init g c = ([], ap (λ (r : Reader). stage_of r (zeros image_bytes) (zeros image_words)) c.begin-reader.ensures)

pub loop-i-preserved : goal.loop-i-preserved
loop-i-preserved g c =
    let l = c.loop-i in
    let f = c.feed-reader.ensures in
    fed_on (stage_of l.reader l.saved l.scratch) _ _ _ _ l.invariant f.value f.saved_after f.scratch_after

pub returns : goal.returns
returns g c = elim c.loop-i-test.branch [
  | else-loop-i-test w ↦ tells _ _ c.finish.ensures (rw (w.reader-is, w.saved-is, w.scratch-is) c.loop-i.invariant)
  | then-loop-i-test+in_ok-n+then-n-lt-PIECE w ↦
      let l = c.loop-i in
      let f = w.feed-reader.ensures in
      tells _ _ c.finish.ensures (rw (w.reader-is, w.saved-is, w.scratch-is)
      (fed_on (stage_of l.reader l.saved l.scratch) _ _ _ _ l.invariant f.value f.saved_after f.scratch_after))
]
