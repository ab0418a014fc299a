-- The invariant: every node below i shares no live handle with a node before it.
use native.Mathlib.Omega.{arith}
use borrow.Author.Rules.{rules}
use mathlib.Core.Path.{◌≡◌, sym}
use Rattle.layout.specs.Sizes.{node_count}
use Rattle.layout.proofs.Cases.{told}
use Rattle.layout.proofs.Bounded.{all_none, all_more, all_fails}
use Rattle.tree.proofs.formed.handles_apart.Goals as goal

pub loop-i-init : goal.loop-i-init
loop-i-init c = (search rules, all_none _)

pub returns-then-not-apart_below : goal.returns-then-not-apart_below
returns-then-not-apart_below c = sym (all_fails _ c.loop-i.i node_count (told c.apart_below.ensures c.if-not-apart_below.true) (omega arith))

pub loop-i-preserved : goal.loop-i-preserved
loop-i-preserved c = (omega arith, all_more _ c.loop-i.i c.loop-i.invariant.1 (told c.apart_below.ensures c.if-not-apart_below.false))

pub returns : goal.returns
returns c =
    let e : c.loop-i.i ≡ node_count = omega arith in
    sym (rw e at c.loop-i.invariant.1)
