-- `finished` meets its contract, by its two tests. Assumes nothing.
use Rattle.work.specs.Entries.{finished}
use Rattle.layout.proofs.Cases.{cases, told}
use Rattle.work.proofs.lent.Lent.finished.Goals as goal

pub returns-then-shaped : goal.returns-then-shaped
unfolding finished
returns-then-shaped c = search (cases, told c.shaped.ensures c.if-shaped.true, c.number.ensures)

pub returns-else-shaped : goal.returns-else-shaped
unfolding finished
returns-else-shaped c = search (cases, told c.shaped.ensures c.if-shaped.false)
