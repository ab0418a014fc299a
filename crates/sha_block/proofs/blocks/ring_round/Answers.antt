-- `sha_block::blocks::ring_round` meets its contract: the word that place i takes up is the round's. Assumes nothing.
use Rattle.std.proofs.Common.{◌+◌, set, ap, ◌∙◌}
use Rattle.sha_block.specs.Rounds.{round_of}
use Rattle.sha_block.specs.Schedule.{at, ring_next}
use Rattle.sha_block.proofs.blocks.ring_round.Goals as goal

pub returns : goal.returns
unfolding ring_next
returns c = let a = c.args in
    let x = c.next-x.ensures in
    record { value = c.round.ensures ∙ ap (round_of a.s (at a.k.now (a.t + a.i))) x; w_after = ap (set a.w.now a.i) x }
