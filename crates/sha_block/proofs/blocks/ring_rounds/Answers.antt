-- `sha_block::blocks::ring_rounds` meets its contract: each turn of the loop adds sixteen rounds to what `Held` says. Assumes nothing.
use Rattle.std.proofs.Common.{◌≡◌, ℕ, ◌+◌, ◌*◌, ◌≤◌, ◌%◌, refl, subst, arith}
use Rattle.sha_block.proofs.Ring.{Held, ring_first, held_more}
use Rattle.sha_block.proofs.blocks.ring_rounds.Goals as goal

pub loop-i-init : goal.loop-i-init
loop-i-init c = (c.requires, ring_first c.args.w.now c.requires, refl)

pub loop-i-preserved : goal.loop-i-preserved
loop-i-preserved c =
    let a = c.args in
    let l = c.loop-i in
    let e = c.sixteen_rounds-s.ensures in
    let low : 16 ≤ 16 * l.i = omega arith in
    let high : 16 * l.i + 16 ≤ 80 = omega arith in
    let whole : 16 * l.i % 16 ≡ 0 = omega arith in
    let next : 16 * l.i + 16 ≡ 16 * (l.i + 1) = omega arith in
    subst (λ (t : ℕ). Held a.k.now a.w.now a.h t c.sixteen_rounds-s.new.w c.sixteen_rounds-s.result) next
    (held_more a.k.now a.w.now a.h (16 * l.i) l.w _ l.s _ c.requires low high whole l.invariant e.value e.w_after)
