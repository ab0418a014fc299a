-- The loop: what n stores of the first work leave is what n - i stores of the work at hand leave of the image at hand.
use native.Mathlib.Omega.{arith}
use native.Mathlib.Nat.{sub-zero}
use Prim.Native.Nat.{◌+◌, ◌-◌}
use mathlib.Core.Path.{◌≡◌, sym, ap, ◌∙◌}
use Rattle.making.specs.Run.{After, all_stores}
use Rattle.making.proofs.After.{after_step, after_none}
use Rattle.making.proofs.run.run_all.Goals as goal

pub loop-i-init : goal.loop-i-init
loop-i-init c = rw sub-zero

pub loop-i-preserved : goal.loop-i-preserved
loop-i-preserved c =
    let l = c.loop-i in
    let n = c.left-n.result in
    let h : n - l.i ≡ n - (l.i + 1) + 1 = omega arith in
    l.invariant ∙ after_step (n - l.i) (n - (l.i + 1)) l.at l.image h ∙ rw (← c.advance.ensures.self_after, ← c.advance.ensures.image_after)

pub returns : goal.returns
unfolding all_stores
returns c =
    let l = c.loop-i in
    let e : c.left-n.result - l.i ≡ 0 = omega arith in
    let all = sym (l.invariant ∙ after_none _ l.at l.image e) in
    record { value = rw (← c.left-n.ensures) (ap (λ (x : After). x.work) all); image_after = rw (← c.left-n.ensures) (ap (λ (x : After). x.image) all) }
