-- The words of the root at their offsets, each by `word`.
use mathlib.Core.Path.{sym, ◌∙◌}
use borrow.Author.Tests.{eq-eqb, ne_eqb}
use Rattle.layout.proofs.Cases.{cases, told}
use Rattle.tree.specs.Tree.{root_ok}
use Rattle.tree.specs.Nodes.{tree_in}
use Rattle.tree.proofs.node.Node.root_ok.Goals as goal

pub returns-then-word-eq-INTERNAL_FLAG : goal.returns-then-word-eq-INTERNAL_FLAG
unfolding root_ok tree_in
returns-then-word-eq-INTERNAL_FLAG c =
    search (
      cases,
      eq-eqb _ _ (told c.word.ensures c.if-word-eq-INTERNAL_FLAG.true),
      sym c.word-then-word-eq-INTERNAL_FLAG.ensures,
    )

pub returns-else-word-eq-INTERNAL_FLAG : goal.returns-else-word-eq-INTERNAL_FLAG
unfolding root_ok tree_in
returns-else-word-eq-INTERNAL_FLAG c =
    rw c.word.ensures (search (cases, ne_eqb _ _ (λ e. c.if-word-eq-INTERNAL_FLAG.false (c.word.ensures ∙ e))))
