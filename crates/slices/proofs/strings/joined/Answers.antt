-- Both strings, as much of each as there is room for; where the lengths fit, all of both.
use Rattle.std.proofs.Common.{◌∙◌, ◌++◌, length-append}
use Rattle.slices.proofs.Filled.{two_copied, part_whole}
use Rattle.slices.proofs.strings.joined.Goals as goal

pub returns : goal.returns
returns g c =
    let a = c.args.first.now in
    let b = c.args.second.now in
    let n = g.row.N in
    let p = two_copied n c.min-n.result c.min-m.result a b _ _ c.min-n.ensures c.min-m.ensures c.copy_from_slice.ensures.after c.copy_from_slice-2.ensures.after in
    record { bytes = p; whole = λ e. p ∙ part_whole n (a ++ b) (length-append a b ∙ e) }
