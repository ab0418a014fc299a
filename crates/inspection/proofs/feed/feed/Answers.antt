-- All the bytes of the piece are taken.
use mathlib.Core.Path.{ap, ◌∙◌}
use mathlib.Core.List.{foldl}
use native.Mathlib.Omega.{arith}
use lib.Seq.{take_all}
use Rattle.inspection.specs.Stages.{Stage, stage_of, one_byte, fed_with}
use Rattle.inspection.proofs.feed.feed.Goals as goal

pub returns : goal.returns
unfolding fed_with
returns c =
    let l = c.loop-b in
    let x = stage_of c.args.reader c.args.saved.now c.args.scratch.now in
    let all = l.invariant ∙ ap (foldl one_byte x) (take_all l.b-index c.args.piece.now (omega arith)) in
    record {
      value = ap (λ (y : Stage). y.reader) all;
      saved_after = ap (λ (y : Stage). y.saved) all;
      scratch_after = ap (λ (y : Stage). y.scratch) all;
    }
