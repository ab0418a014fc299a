-- A free node is all zero; a used one is a root or a child.
use mathlib.Core.Path.{sym}
use Rattle.layout.proofs.Cases.{cases, told}
use Rattle.tree.specs.Tree.{place_ok}
use Rattle.tree.proofs.node.Node.is_ok.Goals as goal

pub returns-then-not-is_used : goal.returns-then-not-is_used
unfolding place_ok
returns-then-not-is_used c = search (cases, told c.is_used.ensures c.if-not-is_used.true, sym c.is_blank.ensures)

pub returns-then-is_root : goal.returns-then-is_root
unfolding place_ok
returns-then-is_root c =
    search (
      cases,
      told c.is_used.ensures c.if-not-is_used.false,
      told c.is_root.ensures c.if-is_root.true,
      sym c.root_ok.ensures,
    )

pub returns : goal.returns
unfolding place_ok
returns c =
    search (
      cases,
      told c.is_used.ensures c.if-not-is_used.false,
      told c.is_root.ensures c.if-is_root.false,
      sym c.child_ok.ensures,
    )
