-- The invariant: this node leads to the root, and so does every node with a mark.
use native.Mathlib.Omega.{arith}
use borrow.Author.Rules.{rules}
use Prim.Native.Nat.{◌-◌}
use Rattle.layout.specs.Sizes.{node_count}
use Rattle.tree.specs.Nodes.{tree_in}
use Rattle.tree.proofs.Marks.{leads_forth, unmarked, marked}
use Rattle.tree.proofs.path.mark_way.Goals as goal

pub loop-init : goal.loop-init
loop-init c = (search rules, c.requires.known, c.requires.node_value)

pub bounds-known-at : goal.bounds-known-at
bounds-known-at c = omega (arith, c.loop.invariant.1.each)

pub shape_of-known-then-known-at : goal.shape_of-known-then-known-at
shape_of-known-then-known-at c = omega (arith, c.loop.invariant.1.each, c.requires.known.each)

pub returns-then-known-at : goal.returns-then-known-at
returns-then-known-at c = c.loop.invariant.1

pub bounds-known-at-in-loop : goal.bounds-known-at-in-loop
bounds-known-at-in-loop c = omega (arith, c.loop.invariant.1.each)

pub loop-preserved : goal.loop-preserved
loop-preserved c = let l = c.loop in
    let t = tree_in c.args.node.now.image.now in
    let up = leads_forth node_count t (node_count - 1) l.at (unmarked node_count t l.known l.invariant.1 l.at l.invariant.0 c.if-known-at.false) l.invariant.2 in (
      rw c.parent-at.ensures up.0,
      marked node_count t l.known l.invariant.1 l.at l.invariant.0 l.invariant.2,
      rw c.parent-at.ensures up.1,
    )

pub shape_of-known : goal.shape_of-known
shape_of-known c = omega (arith, c.loop.invariant.1.each, c.requires.known.each)

pub returns : goal.returns
returns c = c.loop.invariant.1
