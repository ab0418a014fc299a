-- The invariant: the way from the start is the way from here with the steps that are left, and the start leads to the root where this node does.
use native.Mathlib.Omega.{arith}
use borrow.Author.Rules.{rules}
use Prim.Native.Nat.{◌+◌, ◌-◌}
use mathlib.Core.Path.{◌≡◌, refl, sym, ◌∙◌}
use borrow.Author.Tests.{lt-ltb}
use Rattle.layout.specs.Sizes.{node_count}
use Rattle.layout.proofs.Cases.{cases}
use Rattle.tree.specs.Nodes.{tree_in}
use Rattle.tree.proofs.Marks.{leads_back, walk_on, walk_end}
use Rattle.tree.proofs.path.leads_to_root.Goals as goal

pub loop-init : goal.loop-init
loop-init c = (search rules, refl, λ h. h)

pub bounds-known-at : goal.bounds-known-at
bounds-known-at c = omega (arith, c.requires.each)

pub returns-then-known-at : goal.returns-then-known-at
returns-then-known-at c = let l = c.loop in
    sym (l.invariant.2 (c.requires.leading l.at l.invariant.0 c.if-known-at.true))

pub returns-then-p-ge-NODES : goal.returns-then-p-ge-NODES
returns-then-p-ge-NODES c = let g = c in
    let l = c.loop in
    sym (l.invariant.1
    ∙ walk_on node_count (tree_in g.args.node.now.image.now) g.args.known.now g.requires (node_count - 1 - l.counter) l.at _ l.invariant.0 (omega arith)
    c.if-known-at.false c.parent-p.ensures
    ∙ search cases)

pub loop-preserved : goal.loop-preserved
loop-preserved c = let g = c in
    let l = c.loop in
    let t = tree_in g.args.node.now.image.now in
    let p = c.parent-p.result in
    let e : node_count - 1 - l.counter - 1 ≡ node_count - 1 - (l.counter + 1) = omega arith in (
      omega arith,
      l.invariant.1
          ∙ walk_on node_count t g.args.known.now g.requires (node_count - 1 - l.counter) l.at p l.invariant.0 (omega arith) c.if-known-at.false
          c.parent-p.ensures
          ∙ rw (lt-ltb p node_count (omega arith), e),
      λ h. l.invariant.2 (leads_back node_count t l.at l.invariant.0 (omega (arith, c.parent-p.ensures)) (rw (sym c.parent-p.ensures) h)),
    )

pub bounds-known-at-2 : goal.bounds-known-at-2
bounds-known-at-2 c = omega (arith, c.requires.each)

pub returns : goal.returns
returns c = let g = c in
    let l = c.loop in
    walk_end node_count (tree_in g.args.node.now.image.now) g.args.known.now g.requires (node_count - 1 - l.counter) g.args.node.now.index l.at l.invariant.0 (omega arith) l.invariant.1
    l.invariant.2
