-- The invariant: the verdict's byte, and behind it the first k bytes of the registers.
use Prim.Native.Nat.{ℕ, ◌+◌, ◌*◌, ◌/◌, ◌%◌}
use mathlib.Core.Path.{◌≡◌, refl, sym, ap, ap₂, ◌∙◌}
use mathlib.Core.List.{List, ◌∷◌}
use native.Mathlib.Omega.{arith}
use lib.ListN.{length-set}
use lib.Seq.{take_all}
use Rattle.layout.specs.Words.{tab, byte_of, bytes_in}
use Rattle.layout.proofs.Tab.{tab_none}
use Rattle.layout.proofs.Packing.{get_d_part}
use Rattle.replaying.specs.Report.{compared_at}
use Rattle.inspection.specs.Stages.{told_words, verdict_number}
use Rattle.inspection.proofs.Telling.{more_behind}
use Rattle.inspection.proofs.finish.with_registers.Invariants.{byte_at}
use Rattle.inspection.proofs.finish.with_registers.Goals as goal

pub loop-k-init : goal.loop-k-init
loop-k-init c = (omega arith, refl, ap₂ (λ (v : ℕ) (l : List ℕ). v ∷ l) c.from.ensures (tab_none _))

pub loop-k-preserved : goal.loop-k-preserved
loop-k-preserved c =
    let l = c.loop-k in
    let s = c.args.scratch.now in
    let w = c.word.ensures ∙ sym (get_d_part told_words s compared_at (l.k / 4) (omega arith)) in (
      omega arith,
      simp length-set l.invariant.1,
      more_behind (byte_at s) (verdict_number c.args.verdict) l.out l.k c.byte_of.result (omega arith)
          (c.byte_of.ensures ∙ ap (λ (w : ℕ). byte_of w (l.k % 4)) w) l.invariant.2,
    )

pub returns : goal.returns
unfolding bytes_in
returns c =
    let l = c.loop-k in
    let e : l.k ≡ 4 * told_words = omega arith in
    sym (take_all (1 + l.k) l.out (omega arith)) ∙ l.invariant.2 ∙ ap (λ (n : ℕ). verdict_number c.args.verdict ∷ tab n (byte_at c.args.scratch.now)) e
