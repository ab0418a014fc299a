-- `sha_block::blocks::first_rounds` meets its contract: each of the sixteen rounds adds one word and one round to what `Filled` says; after all of
-- them the ring is the block's words, which are the schedule's first sixteen. Assumes nothing.
use Rattle.std.proofs.Common.{arith}
use Rattle.sha_block.proofs.Loading.{filled_none, filled_more, filled_all}
use Rattle.sha_block.proofs.blocks.first_rounds.Goals as goal

pub returns-clause-w_after : goal.returns-clause-w_after
returns-clause-w_after c =
    let p = c.args.bytes.now in
    let more = filled_more c.args.k.now p c.args.from c.args.h in
    let h0 = filled_none c.args.k.now p c.args.from c.args.h c.args.w.now c.requires.0 in
    let h1 = more 0 _ _ _ _ (omega arith) h0 (c.first_round-s.ensures.value, c.first_round-s.ensures.w_after) in
    let h2 = more 1 _ _ _ _ (omega arith) h1 (c.first_round-s-2.ensures.value, c.first_round-s-2.ensures.w_after) in
    let h3 = more 2 _ _ _ _ (omega arith) h2 (c.first_round-s-3.ensures.value, c.first_round-s-3.ensures.w_after) in
    let h4 = more 3 _ _ _ _ (omega arith) h3 (c.first_round-s-4.ensures.value, c.first_round-s-4.ensures.w_after) in
    let h5 = more 4 _ _ _ _ (omega arith) h4 (c.first_round-s-5.ensures.value, c.first_round-s-5.ensures.w_after) in
    let h6 = more 5 _ _ _ _ (omega arith) h5 (c.first_round-s-6.ensures.value, c.first_round-s-6.ensures.w_after) in
    let h7 = more 6 _ _ _ _ (omega arith) h6 (c.first_round-s-7.ensures.value, c.first_round-s-7.ensures.w_after) in
    let h8 = more 7 _ _ _ _ (omega arith) h7 (c.first_round-s-8.ensures.value, c.first_round-s-8.ensures.w_after) in
    let h9 = more 8 _ _ _ _ (omega arith) h8 (c.first_round-s-9.ensures.value, c.first_round-s-9.ensures.w_after) in
    let h10 = more 9 _ _ _ _ (omega arith) h9 (c.first_round-s-10.ensures.value, c.first_round-s-10.ensures.w_after) in
    let h11 = more 10 _ _ _ _ (omega arith) h10 (c.first_round-s-11.ensures.value, c.first_round-s-11.ensures.w_after) in
    let h12 = more 11 _ _ _ _ (omega arith) h11 (c.first_round-s-12.ensures.value, c.first_round-s-12.ensures.w_after) in
    let h13 = more 12 _ _ _ _ (omega arith) h12 (c.first_round-s-13.ensures.value, c.first_round-s-13.ensures.w_after) in
    let h14 = more 13 _ _ _ _ (omega arith) h13 (c.first_round-s-14.ensures.value, c.first_round-s-14.ensures.w_after) in
    let h15 = more 14 _ _ _ _ (omega arith) h14 (c.first_round-s-15.ensures.value, c.first_round-s-15.ensures.w_after) in
    let h16 = more 15 _ _ _ _ (omega arith) h15 (c.first_round.ensures.value, c.first_round.ensures.w_after) in
    (filled_all c.args.k.now p c.args.from c.args.h _ _ h16).1
