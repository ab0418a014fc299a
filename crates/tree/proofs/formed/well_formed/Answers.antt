-- The tests in the order of the definition; the count by the law of the count.
use mathlib.Core.Path.{sym, ◌∙◌}
use borrow.Author.Tests.{eq-eqb, ne_eqb}
use Rattle.layout.proofs.Cases.{cases, told}
use Rattle.tree.specs.Tree.{well_formed}
use Rattle.tree.proofs.formed.well_formed.Goals as goal

pub returns-then-not-nodes_ok : goal.returns-then-not-nodes_ok
unfolding well_formed
returns-then-not-nodes_ok c = search (cases, told c.nodes_ok.ensures c.if-not-nodes_ok.true)

pub returns-then-count-ne1 : goal.returns-then-count-ne1
unfolding well_formed
returns-then-count-ne1 c =
    search (
      cases,
      told c.nodes_ok.ensures c.if-not-nodes_ok.false,
      ne_eqb _ _ (λ e. c.if-count-ne1.true (c.count.ensures ∙ e)),
    )

pub returns-then-not-handles_apart : goal.returns-then-not-handles_apart
unfolding well_formed
returns-then-not-handles_apart c =
    search (
      cases,
      told c.nodes_ok.ensures c.if-not-nodes_ok.false,
      eq-eqb _ _ (told c.count.ensures c.if-count-ne1.false),
      told c.handles_apart.ensures c.if-not-handles_apart.true,
    )

pub returns : goal.returns
unfolding well_formed
returns c =
    search (
      cases,
      told c.nodes_ok.ensures c.if-not-nodes_ok.false,
      eq-eqb _ _ (told c.count.ensures c.if-count-ne1.false),
      told c.handles_apart.ensures c.if-not-handles_apart.false,
      sym c.all_lead.ensures,
    )
