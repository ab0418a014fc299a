-- `sha_block::blocks::ring_rounds` meets its contract: each turn of the loop adds sixteen rounds to what `Held` says. Assumes nothing.
use Rattle.std.proofs.Common.{◌*◌}
use Rattle.sha_block.proofs.Ring.{Held}
use Rattle.sha_block.proofs.blocks.ring_rounds.Given as goal

abbrev pub invariant-loop-i : goal.invariant-loop-i
invariant-loop-i l = Held l.k l.initial.w l.initial.s (16 * l.i) l.w l.s
