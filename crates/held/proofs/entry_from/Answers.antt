-- `entry_from` meets its contract: the lent slice and what is read are the parts of the work that the words are (Recorded, `parts`). Assumes nothing.
use mathlib.Core.Path.{◌∙◌}
use Rattle.held.proofs.Recorded.{result_parts, buffer_parts}
use Rattle.held.proofs.entry_from.Goals as goal

pub returns : goal.returns
returns c =
    let l = c.args.work.now in
    let buffer = c.args.buffer.now in
    record {
      value = c.take.ensures.value ∙ result_parts l c.lent.result _ c.lent.ensures c.inputs_in.ensures buffer;
      buffer_after = c.take.ensures.buffer_after ∙ buffer_parts l c.lent.result _ c.lent.ensures c.inputs_in.ensures buffer;
    }
