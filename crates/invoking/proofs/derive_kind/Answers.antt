-- The two cases of `retain`.
use borrow.Author.Tests.{eq-eqb, ne_eqb}
use Rattle.invoking.proofs.derive_kind.Goals as goal

pub returns-then-retain-eq0 : goal.returns-then-retain-eq0
returns-then-retain-eq0 c = rw (eq-eqb c.args.retain 0 c.if-retain-eq0.true)

pub returns : goal.returns
returns c = rw (ne_eqb c.args.retain 0 c.if-retain-eq0.false)
