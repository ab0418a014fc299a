-- `sha_block::blocks::block` meets its contract: sixteen rounds and then sixty-four are the eighty, and the sum ends them. Assumes nothing.
use Rattle.std.proofs.Common.{ℕ, ◌+◌, List, length, sym, ap, ◌∙◌, ap₂}
use Rattle.sha_block.specs.Rounds.{turns, next_hash}
use Rattle.sha_block.specs.Schedule.{at, schedule}
use Rattle.sha_block.specs.Blocks.{block_words, block_of}
use Rattle.sha_block.specs.declared.state.State.{State}
use Rattle.sha_block.proofs.Turns.{turns_add}
use Rattle.sha_block.proofs.Loading.{length_words}
use Rattle.sha_block.proofs.blocks.block.Goals as goal

pub ring_rounds-requires : goal.ring_rounds-requires
ring_rounds-requires c =
    let a = c.args in
    ap length c.first_rounds-s.ensures.w_after ∙ length_words a.bytes.now a.from 16

pub returns : goal.returns
unfolding block_of
returns c =
    let a = c.args in
    let f = c.first_rounds-s.ensures in
    let K = at a.k.now in
    let m = block_words a.bytes.now a.from 16 in
    c.sum.ensures
    ∙ ap (next_hash a.h)
    (c.ring_rounds.ensures
    ∙ ap₂ (λ (w : List ℕ) (s : State). turns (λ j. K (16 + j)) (λ j. at (schedule 64 w) (16 + j)) 64 s) f.w_after f.value
    ∙ sym (turns_add K (at (schedule 64 m)) 16 64 a.h))
