-- The tests in the order of the definition.
use mathlib.Core.Path.{sym}
use borrow.Author.Tests.{le-ltb}
use Rattle.layout.proofs.Cases.{cases, told}
use Rattle.tree.specs.Tree.{goes_too}
use Rattle.tree.proofs.freed.goes_too.Goals as goal

pub returns-then-p-ge-NODES : goal.returns-then-p-ge-NODES
unfolding goes_too
returns-then-p-ge-NODES c = rw (le-ltb _ _ c.if-p-ge-NODES.true)

pub returns-then-is_root : goal.returns-then-is_root
unfolding goes_too
returns-then-is_root c = search (cases, c.if-p-ge-NODES.false, told c.is_root.ensures c.if-is_root.true)

pub returns-then-not-is_retired : goal.returns-then-not-is_retired
unfolding goes_too
returns-then-not-is_retired c =
    search (
      cases,
      c.if-p-ge-NODES.false,
      told c.is_root.ensures c.if-is_root.false,
      told c.is_retired.ensures c.if-not-is_retired.true,
    )

pub returns : goal.returns
unfolding goes_too
returns c =
    search (
      cases,
      c.if-p-ge-NODES.false,
      told c.is_root.ensures c.if-is_root.false,
      told c.is_retired.ensures c.if-not-is_retired.false,
      sym c.childless_but.ensures,
    )
