-- `Work::entry` meets its contract: number and buffer are those of the work's parts (Recorded). Assumes nothing.
use mathlib.Core.Path.{ap, ◌∙◌}
use mathlib.Core.List.{List}
use Prim.Native.Nat.{ℕ}
use Rattle.work.specs.declared.Work.{Work}
use Rattle.work.specs.Parts.{recording}
use Rattle.work.specs.Recorded.{entry_result, entry_buffer}
use Rattle.work.proofs.Recorded.{result_recording, buffer_recording}
use Rattle.work.proofs.Work.entry.Goals as goal

abbrev told_by : Work → List ℕ → Work
told_by w inputs = recording w.kind w.position w.answer_len w.node inputs

pub returns : goal.returns
returns c =
    let w = c.args.self.now in
    let b = c.args.buffer.now in
    record {
      value = c.take.ensures.value ∙ ap (λ (x : Work). entry_result (told_by x w.inputs) b) c.lent.ensures ∙ result_recording w b;
      buffer_after = c.take.ensures.buffer_after ∙ ap (λ (x : Work). entry_buffer (told_by x w.inputs) b) c.lent.ensures ∙ buffer_recording w b;
    }
