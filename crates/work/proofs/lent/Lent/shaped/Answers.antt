-- `shaped` meets its contract: a return for each outcome of the three tests. Assumes nothing.
use Rattle.work.specs.Entries.{well_shaped}
use Rattle.layout.proofs.Cases.{cases, told}
use Rattle.work.proofs.lent.Lent.shaped.Goals as goal

pub returns-then-self-le-ANSWER_MAX : goal.returns-then-self-le-ANSWER_MAX
unfolding well_shaped
returns-then-self-le-ANSWER_MAX c = search (cases, told c.index_ok.ensures c.if-index_ok.true, c.number.ensures)

pub returns-else-self-le-ANSWER_MAX : goal.returns-else-self-le-ANSWER_MAX
unfolding well_shaped
returns-else-self-le-ANSWER_MAX c = search (cases, told c.index_ok.ensures c.if-index_ok.true)

pub returns-else-index_ok : goal.returns-else-index_ok
unfolding well_shaped
returns-else-index_ok c = search (cases, told c.index_ok.ensures c.if-index_ok.false)
