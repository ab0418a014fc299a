-- `sha384::padding::conclude` meets its contract: the buffer is one of the blocks that end the padded message, with the length where it fits, and
-- else the length in a second block. Assumes nothing.
use Rattle.std.proofs.Common.{ℕ, ◌*◌, ◌<◌, List, ◌++◌, length, replicate, ap, ◌∙◌, arith}
use Rattle.std.proofs.lemmas.List.Edits.{sets}
use Rattle.std.proofs.Math.Seq.{length-sets}
use Rattle.sha384.specs.Sha384.{bytes_of, padding}
use Rattle.sha384.proofs.Ended.{marked, length_marked, marks, one_block, two_blocks}
use Rattle.sha384.proofs.Hash.{one_run, two_runs}
use Rattle.sha384.proofs.padding.conclude.Goals as goal

pub returns-then-n-lt112 : goal.returns-then-n-lt112
returns-then-n-lt112 c =
    let last = c.args.last.now in
    let vs = bytes_of 8 (c.args.total * 8) in
    let short : length last < 128 = omega (arith, c.requires.0) in
    let mark = marks last _ short c.copy_from_slice.ensures.after in
    let stored = c.put_word.ensures ∙ ap (λ (b : List ℕ). sets b 120 vs) mark in
    let all = stored ∙ one_block last c.args.total c.requires.0 c.requires.1 c.if-n-lt112.true in
    c.absorb.ensures
    ∙ one_run c.args.k.now c.args.h.now _ (last ++ padding c.args.total) all
    (ap length stored ∙ length-sets (marked last) 120 vs ∙ length_marked last short)

pub returns-else-n-lt112 : goal.returns-else-n-lt112
returns-else-n-lt112 c =
    let last = c.args.last.now in
    let vs = bytes_of 8 (c.args.total * 8) in
    let short : length last < 128 = omega (arith, c.requires.0) in
    let mark = marks last _ short c.copy_from_slice.ensures.after in
    let all = two_blocks last c.args.total c.requires.0 c.requires.1 c.if-n-lt112.false in
    two_runs c.args.k.now c.args.h.now (last ++ padding c.args.total) (marked last) (sets (replicate 128 0) 120 vs) mark
    c.put_word-else-n-lt112.ensures c.absorb-else-n-lt112.ensures c.absorb-else-n-lt112-2.ensures all (length_marked last short)
    (length-sets (replicate 128 0) 120 vs)
