-- Of another length than a handle, or taken.
use borrow.Author.Tests.{eq-eqb, ne_eqb}
use Rattle.opening.specs.Orders.{unfit}
use Rattle.grounds.proofs.handles.is_unfit.Goals as goal

pub returns-then-fresh-ne-HANDLE_BYTES : goal.returns-then-fresh-ne-HANDLE_BYTES
unfolding unfit
returns-then-fresh-ne-HANDLE_BYTES c = rw (ne_eqb _ _ c.if-fresh-ne-HANDLE_BYTES.true)

pub returns-else-fresh-ne-HANDLE_BYTES : goal.returns-else-fresh-ne-HANDLE_BYTES
unfolding unfit
returns-else-fresh-ne-HANDLE_BYTES c = rw (eq-eqb _ _ c.if-fresh-ne-HANDLE_BYTES.false) (rw c.fresh_words.ensures at c.taken.ensures)
