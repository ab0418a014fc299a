-- The invariant: no node below j but b is a child.
use native.Mathlib.Omega.{arith}
use borrow.Author.Rules.{rules}
use mathlib.Core.Path.{◌≡◌, sym}
use Rattle.layout.specs.Sizes.{node_count}
use Rattle.layout.proofs.Cases.{told}
use Rattle.layout.proofs.Bounded.{all_none, all_more, all_fails}
use Rattle.tree.specs.Tree.{childless_but}
use Rattle.tree.proofs.freed.childless_but.Goals as goal

pub loop-j-init : goal.loop-j-init
loop-j-init c = (search rules, all_none _)

pub returns-then-not-is_other : goal.returns-then-not-is_other
unfolding childless_but
returns-then-not-is_other c = sym (all_fails _ c.loop-j.j node_count (told c.is_other.ensures c.if-not-is_other.true) (omega arith))

pub loop-j-preserved : goal.loop-j-preserved
loop-j-preserved c = (
  omega arith,
  all_more _ c.loop-j.j c.loop-j.invariant.1 (told c.is_other.ensures c.if-not-is_other.false),
)

pub returns : goal.returns
unfolding childless_but
returns c =
    let e : c.loop-j.j ≡ node_count = omega arith in
    sym (rw e at c.loop-j.invariant.1)
