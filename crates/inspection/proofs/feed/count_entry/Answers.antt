-- By what was read: a refusal, or parts, whose entry counts or does not.
use mathlib.Core.Path.{sym, ap, ◌∙◌}
use Rattle.std.proofs.lemmas.Result.{err_from_is_err_and}
use Rattle.inspection.specs.Stages.{counting_of, counted_on}
use Rattle.inspection.proofs.Reading.{read_refuses, read_counts}
use Rattle.inspection.proofs.feed.count_entry.Goals as goal

pub returns : goal.returns
returns c =
    let scratch = c.args.scratch.now in
    let told = read_counts scratch c.args.bytes.now c.in_ok-entry.entry c.in_ok-entry.field-0-1 c.in_ok-entry.ensures in
    record {
      value = c.count.ensures.value ∙ sym told.0;
      scratch_after = c.count.ensures.image_after ∙ sym told.1;
    }

pub returns-in_err-entry : goal.returns-in_err-entry
returns-in_err-entry c =
    let scratch = c.args.scratch.now in
    let e = read_refuses scratch c.args.bytes.now c.in_err-entry.field-0.0 c.in_err-entry.ensures in
    let p = err_from_is_err_and c.from_residual.result c.from_residual.ensures.1 in
    record { value = rw (p.1, p.2) (ap (counting_of scratch) (sym e)); scratch_after = ap (counted_on scratch) (sym e) }
