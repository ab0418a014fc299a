-- By mark, attestation and comparison.
use Prim.Native.Nat.{ℕ}
use mathlib.Core.Path.{ap₂, ◌∙◌}
use mathlib.Core.List.{List, [], ◌∷◌, ◌++◌}
use borrow.Author.Tests.{eq-eqb, ne_eqb}
use Rattle.layout.proofs.Cases.{told}
use Rattle.inspection.specs.Stages.{told_in, verdict_at}
use Rattle.inspection.proofs.finish.judged.Goals as goal

pub returns-then-word-ne1 : goal.returns-then-word-ne1
unfolding verdict_at
returns-then-word-ne1 c = λ r.
    rw (ne_eqb _ 1 (λ e. c.if-word-ne1.true (c.word.ensures ∙ e)))
    (c.joined.ensures ∙ ap₂ (λ (l : List ℕ) (n : ℕ). told_in (l ++ (n ∷ []))) c.head-front.ensures c.from.ensures)

pub returns-then-word-ne1-2 : goal.returns-then-word-ne1-2
unfolding verdict_at
returns-then-word-ne1-2 c = λ r.
    rw
    (eq-eqb _ 1 (told c.word.ensures c.if-word-ne1.false), ne_eqb _ 1 (λ e. c.if-word-ne1-2.true (c.word-2.ensures ∙ e)))
    (c.joined-then-word-ne1-2.ensures ∙ ap₂ (λ (l : List ℕ) (n : ℕ). told_in (l ++ (n ∷ []))) c.head-front.ensures c.from-then-word-ne1-2.ensures)

pub returns-then-not-same : goal.returns-then-not-same
unfolding verdict_at
returns-then-not-same c = λ r.
    rw
    (eq-eqb _ 1 (told c.word.ensures c.if-word-ne1.false), eq-eqb _ 1 (told c.word-2.ensures c.if-word-ne1-2.false), told c.same.ensures c.if-not-same.true)
    (c.joined-then-not-same.ensures ∙ ap₂ (λ (l m : List ℕ). told_in (l ++ m)) c.head-front.ensures c.with_registers.ensures)

pub returns : goal.returns
unfolding verdict_at
returns c = λ r.
    rw
    (eq-eqb _ 1 (told c.word.ensures c.if-word-ne1.false), eq-eqb _ 1 (told c.word-2.ensures c.if-word-ne1-2.false), told c.same.ensures c.if-not-same.false)
    (c.joined-2.ensures ∙ ap₂ (λ (l m : List ℕ). told_in (l ++ m)) c.head-front.ensures c.with_registers-2.ensures)
