-- The four bytes of the number, and the eight of the offset behind them.
use native.Mathlib.Nat.{div-one}
use Rattle.inspection.proofs.finish.head.Goals as goal

pub returns : goal.returns
returns c =
    rw (c.copy_from_slice-2.ensures.after, c.to_le_bytes.ensures, c.copy_from_slice.ensures.after, c.four.ensures, div-one c.args.offset)
