-- `sha_block::blocks::absorb` meets its contract: each turn of the loop adds one block. Assumes nothing.
use Rattle.std.proofs.Common.{◌≡◌}
use Rattle.sha_block.specs.Blocks.{absorbed}
use Rattle.sha_block.proofs.blocks.absorb.Given as goal

abbrev pub invariant-loop-q : goal.invariant-loop-q
invariant-loop-q l = l.h ≡ absorbed l.k l.initial.h l.bytes l.q
