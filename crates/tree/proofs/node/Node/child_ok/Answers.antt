-- The words of the node at its offsets, each by `word`.
use mathlib.Core.Path.{sym, ◌∙◌}
use borrow.Author.Tests.{eq-eqb, ne_eqb}
use Rattle.layout.proofs.Cases.{cases, told}
use Rattle.tree.specs.Tree.{child_ok}
use Rattle.tree.specs.Nodes.{tree_in}
use Rattle.tree.proofs.node.Node.child_ok.Goals as goal

pub returns-then-word-ne0 : goal.returns-then-word-ne0
unfolding child_ok tree_in
returns-then-word-ne0 c = search (cases, ne_eqb _ _ (λ e. c.if-word-ne0.true (c.word.ensures ∙ e)))

pub returns-then-p-ge-NODES : goal.returns-then-p-ge-NODES
unfolding child_ok tree_in
returns-then-p-ge-NODES c =
    search (cases, eq-eqb _ _ (told c.word.ensures c.if-word-ne0.false), sym c.parent-p.ensures)

pub returns : goal.returns
unfolding child_ok tree_in
returns c =
    search (
      cases,
      eq-eqb _ _ (told c.word.ensures c.if-word-ne0.false),
      sym c.parent-p.ensures,
      sym c.is_used.ensures,
    )
