-- A loop that passes while the words are v: `all_more` is a word more, `all_fails` the word that is not.
use native.Mathlib.Omega.{arith}
use borrow.Author.Rules.{rules}
use mathlib.Core.Path.{◌≡◌, sym, ◌∙◌}
use borrow.Author.Tests.{eq-eqb, ne_eqb}
use Rattle.layout.proofs.Cases.{told}
use Rattle.layout.proofs.Bounded.{all_none, all_more, all_fails}
use Rattle.tree.proofs.node.Node.all_are.Goals as goal

pub loop-j-init : goal.loop-j-init
loop-j-init c = (search rules, all_none _)

pub returns-then-word-v : goal.returns-then-word-v
returns-then-word-v c =
    sym (all_fails _ c.loop-j.j c.args.n
    (ne_eqb _ _ (λ e. c.if-word-v.true (c.word.ensures ∙ e))) (omega arith))

pub loop-j-preserved : goal.loop-j-preserved
loop-j-preserved c = (
  omega arith,
  all_more _ c.loop-j.j c.loop-j.invariant.1
      (eq-eqb _ _ (told c.word.ensures c.if-word-v.false)),
)

pub returns : goal.returns
returns c =
    let e : c.loop-j.j ≡ c.args.n = omega arith in
    sym (rw e at c.loop-j.invariant.1)
