-- The invariant: every used node below i leads to the root, and so does every node with a mark.
use native.Mathlib.Omega.{arith}
use mathlib.Core.Path.{◌≡◌, sym}
use Rattle.layout.specs.Sizes.{node_count}
use Rattle.layout.proofs.Cases.{told}
use Rattle.layout.proofs.Bounded.{all_none, all_more, all_fails}
use Rattle.tree.proofs.formed.all_lead.Goals as goal

pub loop-i-init : goal.loop-i-init
loop-i-init c = (omega arith, c.roots-known.ensures, all_none _)

pub leads_if_used-requires : goal.leads_if_used-requires
leads_if_used-requires c = c.loop-i.invariant.1

pub returns-then-not-leads_if_used : goal.returns-then-not-leads_if_used
returns-then-not-leads_if_used c = sym (all_fails _ c.loop-i.i node_count (told c.leads_if_used.ensures.value c.if-not-leads_if_used.true) (omega arith))

pub loop-i-preserved : goal.loop-i-preserved
loop-i-preserved c =
    let l = c.loop-i in
    let e = c.leads_if_used.ensures in
    (omega arith, e.known_2, all_more _ l.i l.invariant.2 (told e.value c.if-not-leads_if_used.false))

pub returns : goal.returns
returns c = let e : c.loop-i.i ≡ node_count = omega arith in sym (rw e at c.loop-i.invariant.2)
