-- What is known of a well-shaped work, and of one with a store left. Assumes nothing.
use Prim.Native.Nat.{ℕ, ◌+◌, ◌-◌, ◌<◌, ◌≤◌}
use mathlib.Core.Path.{◌≡◌, refl}
use mathlib.Core.Bool.{Bool, true, false, cond, ◌&&◌}
use native.Mathlib.Omega.{arith}
use borrow.Author.Tests.{leb-true}
use lib.Dec.{leb, eqb}
use Rattle.layout.specs.Sizes.{image_words, answer_max}
use Rattle.layout.proofs.Cases.{and_left, and_right}
use Rattle.work.specs.declared.Work.{Work}
use Rattle.table.specs.Table.{index_ok, number_of}
use Rattle.work.specs.Entries.{well_shaped, left_of, finished}
use Rattle.table.proofs.ByKind.{number_most}

module _ (w : Work) (shaped : well_shaped w ≡ true) where
  pub shaped_index : index_ok w.kind w.node ≡ true
  unfolding well_shaped
  shaped_index = and_left (index_ok w.kind w.node) (leb w.answer_len answer_max && leb w.position (number_of w.kind)) shaped

  bounds : (leb w.answer_len answer_max && leb w.position (number_of w.kind)) ≡ true
  unfolding well_shaped
  bounds = and_right (index_ok w.kind w.node) (leb w.answer_len answer_max && leb w.position (number_of w.kind)) shaped

  pub shaped_answer : w.answer_len ≤ answer_max
  shaped_answer = leb-true w.answer_len answer_max (and_left (leb w.answer_len answer_max) (leb w.position (number_of w.kind)) bounds)

  pub shaped_position : w.position ≤ number_of w.kind
  shaped_position = leb-true w.position (number_of w.kind) (and_right (leb w.answer_len answer_max) (leb w.position (number_of w.kind)) bounds)

pub finished_shaped : (w : Work) → finished w ≡ true → well_shaped w ≡ true
unfolding finished
finished_shaped w h = and_left (well_shaped w) (eqb w.position (number_of w.kind)) h

-- ---- a store left

left_yes : (t : Bool) (x : ℕ) → 0 < cond t x 0 → (t ≡ true) × (0 < x)
left_yes true x h = (refl, h)
left_yes false x h = absurd (omega arith)

module _ (w : Work) (left : 0 < left_of w) where
  pub left_shaped : well_shaped w ≡ true
  unfolding left_of
  left_shaped = (left_yes (well_shaped w) (number_of w.kind - w.position) left).0

  pub left_position : w.position < number_of w.kind
  unfolding left_of
  left_position = omega (arith, (left_yes (well_shaped w) (number_of w.kind - w.position) left).1)

  -- so its position may move one on
  pub left_below : w.position < image_words + 1
  left_below = omega (arith, left_position, number_most w.kind)
