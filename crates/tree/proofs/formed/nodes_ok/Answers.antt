-- The invariant: every node below i is in order.
use native.Mathlib.Omega.{arith}
use borrow.Author.Rules.{rules}
use mathlib.Core.Path.{◌≡◌, sym}
use Rattle.layout.specs.Sizes.{node_count}
use Rattle.layout.proofs.Cases.{told}
use Rattle.layout.proofs.Bounded.{all_none, all_more, all_fails}
use Rattle.tree.proofs.formed.nodes_ok.Goals as goal

pub loop-i-init : goal.loop-i-init
loop-i-init c = (search rules, all_none _)

pub returns-then-not-is_ok : goal.returns-then-not-is_ok
returns-then-not-is_ok c = sym (all_fails _ c.loop-i.i node_count (told c.is_ok.ensures c.if-not-is_ok.true) (omega arith))

pub loop-i-preserved : goal.loop-i-preserved
loop-i-preserved c = (
  omega arith,
  all_more _ c.loop-i.i c.loop-i.invariant.1 (told c.is_ok.ensures c.if-not-is_ok.false),
)

pub returns : goal.returns
returns c =
    let e : c.loop-i.i ≡ node_count = omega arith in
    sym (rw e at c.loop-i.invariant.1)
