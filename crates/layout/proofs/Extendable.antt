-- What is known of a register that may be extended. Assumes nothing.
use Prim.Native.Nat.{ℕ, ◌≤◌}
use mathlib.Core.Path.{◌≡◌}
use mathlib.Core.Bool.{true}
use lib.Dec.{leb}
use borrow.Author.Tests.{leb-true}
use Rattle.layout.specs.Sizes.{extend_first, extend_last, extendable}
use Rattle.layout.proofs.Cases.{and_left, and_right}

pub extendable_from : (r : ℕ) → extendable r ≡ true → extend_first ≤ r
unfolding extendable
extendable_from r h = leb-true extend_first r (and_left (leb extend_first r) (leb r extend_last) h)

pub extendable_to : (r : ℕ) → extendable r ≡ true → r ≤ extend_last
unfolding extendable
extendable_to r h = leb-true r extend_last (and_right (leb extend_first r) (leb r extend_last) h)
