-- `position_of` meets its contract: a return for each outcome of the test. Assumes nothing.
use Rattle.layout.proofs.Cases.{told}
use Rattle.flat.specs.Flat.{position_of}
use Rattle.held.proofs.reading.position_of.Goals as goal

pub returns-then-is_kind : goal.returns-then-is_kind
unfolding position_of
returns-then-is_kind c = rw (told c.is_kind.ensures c.if-is_kind.true)

pub returns : goal.returns
unfolding position_of
returns c = rw (told c.is_kind.ensures c.if-is_kind.false)
