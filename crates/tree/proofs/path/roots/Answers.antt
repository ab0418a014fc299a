-- The invariant: below i the root alone has a mark.
use native.Mathlib.Omega.{arith}
use mathlib.Core.Path.{◌≡◌, refl}
use lib.ListN.{length-set}
use Rattle.layout.specs.Sizes.{node_count}
use Rattle.tree.specs.Nodes.{tree_in}
use Rattle.tree.proofs.Marks.{roots_known, roots_more}
use Rattle.tree.proofs.path.roots.Goals as goal

pub loop-i-init : goal.loop-i-init
loop-i-init c = (omega arith, refl, λ j l. absurd (omega arith))

pub loop-i-preserved : goal.loop-i-preserved
loop-i-preserved c =
    let g = c in
    let l = c.loop-i in (
      omega arith,
      simp length-set l.invariant.1,
      roots_more (tree_in g.args.image.now) l.known l.i _ (omega (arith, l.invariant.1)) c.is_root.ensures l.invariant.2,
    )

pub returns : goal.returns
returns c =
    let l = c.loop-i in
    let e : l.i ≡ node_count = omega arith in
    roots_known node_count (tree_in c.args.image.now) l.known l.invariant.1 (rw e at l.invariant.2)
