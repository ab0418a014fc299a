-- The invariant: the count of the nodes below i.
use native.Mathlib.Omega.{arith}
use borrow.Author.Rules.{rules}
use mathlib.Core.Path.{◌≡◌}
use Rattle.layout.specs.Sizes.{node_count}
use Rattle.layout.proofs.Cases.{told}
use Rattle.layout.proofs.Bounded.{count_none, count_yes, count_no}
use Rattle.tree.proofs.formed.count.Goals.{then-is_of, else-is_of}
use Rattle.tree.proofs.formed.count.Goals as goal

pub loop-i-init : goal.loop-i-init
loop-i-init c = (search rules, search rules, count_none _)

pub loop-i-preserved : goal.loop-i-preserved
loop-i-preserved c =
    let l = c.loop-i in
    elim c.if-is_of.branch [
      | then-is_of w ↦ (omega arith, omega arith, count_yes _ l.i l.n c.if-is_of.n l.invariant.2 (told c.is_of.ensures w.if-is_of.true) w.n-is)
      | else-is_of w ↦ (omega arith, omega arith, count_no _ l.i l.n c.if-is_of.n l.invariant.2 (told c.is_of.ensures w.if-is_of.false) w.n-is)
    ]

pub returns : goal.returns
returns c =
    let e : c.loop-i.i ≡ node_count = omega arith in
    rw e at c.loop-i.invariant.2
