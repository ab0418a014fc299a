-- `left` meets its contract: a return for each arm of `left_of`; the position of a well-shaped work is at most its number. Assumes nothing.
use native.Mathlib.Omega.{arith}
use Rattle.work.specs.Entries.{left_of}
use Rattle.work.specs.Parts.{lent_work}
use Rattle.work.proofs.Shape.{shaped_position}
use Rattle.layout.proofs.Cases.{cases, told}
use Rattle.work.proofs.lent.Lent.left.Goals as goal

pub overflow_sub-result : goal.overflow_sub-result
overflow_sub-result c =
    let a = c.args in
    omega (
      arith,
      c.number.ensures,
      shaped_position (lent_work a.self.now)
          (told c.shaped.ensures c.if-shaped.true),
    )

pub returns-then-shaped : goal.returns-then-shaped
unfolding left_of
returns-then-shaped c = search (cases, told c.shaped.ensures c.if-shaped.true, c.number.ensures)

pub returns : goal.returns
unfolding left_of
returns c = search (cases, told c.shaped.ensures c.if-shaped.false)
