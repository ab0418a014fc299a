-- The two refusals first, then the copy into the front of the buffer.
use native.Mathlib.Omega.{arith}
use Prim.Native.Nat.{ℕ, ◌≤◌}
use mathlib.Core.Path.{◌≡◌, sym, ap, ◌∙◌}
use mathlib.Core.List.{List, ◌++◌}
use native.Mathlib.Nat.{zero-add}
use mathlib.Core.Bool.{Bool, true, false}
use lib.Dec.{ltb}
use lib.ListN.{length, take, drop}
use lib.Seq.{paste, length-take-le}
use Rattle.layout.specs.Sizes.{answer_max}
use borrow.Author.Tests.{lt-ltb, le-ltb}
use Rattle.work.specs.declared.Work.{Work}
use Rattle.work.specs.declared.lent.Lent.{Lent}
use Rattle.work.specs.Entries.{finished, answer_given, answer_number, answer_buffer}
use Rattle.work.specs.Parts.{lent_work}
use Rattle.work.proofs.Parts.{storing_of, finished_storing}
use Rattle.work.proofs.Shape.{shaped_answer, finished_shaped}
use Rattle.layout.proofs.Cases.{told}
use borrow.Author.Rules.{rules}
use Rattle.work.proofs.Work.answer.Goals as goal

-- the lent parts are finished if the work is
same : (w : Work) (l : Lent) → lent_work l ≡ storing_of w → finished (lent_work l) ≡ finished w
same w l p = ap finished p ∙ finished_storing w

pub returns-then-not-finished : goal.returns-then-not-finished
unfolding answer_given answer_number answer_buffer
returns-then-not-finished c =
    let early : finished c.args.self.now ≡ false = told (c.finished.ensures ∙ same c.args.self.now c.lent.result c.lent.ensures) c.if-not-finished.true in
    record { value = rw early; buffer_after = rw early }

pub returns-then-buffer-n : goal.returns-then-buffer-n
unfolding answer_given answer_number answer_buffer
returns-then-buffer-n c =
    let w = c.args.self.now in
    let b = c.args.buffer.now in
    let done : finished w ≡ true = told (c.finished.ensures ∙ same w c.lent.result c.lent.ensures) c.if-not-finished.false in
    let short = lt-ltb (length b) w.answer_len (omega arith) in
    record { value = rw (done, short); buffer_after = rw (done, short) }

-- past the tests the work is finished, so its answer is within the field

fits : (w : Work) → length w.answer ≡ answer_max → finished w ≡ true → w.answer_len ≤ length w.answer
fits w long done = omega (arith, long, shaped_answer w (finished_shaped w done))

within : (w : Work) (l : Lent) {b : Bool} → length w.answer ≡ answer_max → lent_work l ≡ storing_of w → b ≡ finished (lent_work l) → b ≡ true
    → w.answer_len ≤ length w.answer
within w l long p e h = fits w long (told (e ∙ same w l p) h)

pub slice_bounds-copy_from_slice-end : goal.slice_bounds-copy_from_slice-end
slice_bounds-copy_from_slice-end c = omega arith

pub shared_ref_as_front-copy_from_slice : goal.shared_ref_as_front-copy_from_slice
shared_ref_as_front-copy_from_slice c =
    let w = c.args.self.now in
    shaped_answer w (finished_shaped w (told (c.finished.ensures ∙ same w c.lent.result c.lent.ensures) c.if-not-finished.false))

pub slice_bounds-copy_from_slice-end-2 : goal.slice_bounds-copy_from_slice-end-2
slice_bounds-copy_from_slice-end-2 c = sym (length-take-le c.args.self.now.answer_len c.args.buffer.now (omega arith))

pub copy_from_slice-requires : goal.copy_from_slice-requires
copy_from_slice-requires c =
    let w = c.args.self.now in
    length-take-le w.answer_len c.args.buffer.now (omega arith)
    ∙ sym (length-take-le w.answer_len w.answer (within w c.lent.result (search rules) c.lent.ensures c.finished.ensures c.if-not-finished.false))

-- the front that is written, as a paste
pasted : (d s : List ℕ) (n : ℕ) → take n s ++ drop n d ≡ paste d 0 s n
pasted d s n = ap (λ (k : ℕ). take n s ++ drop k d) (sym (zero-add n))

pub returns : goal.returns
unfolding answer_given answer_number answer_buffer
returns c =
    let w = c.args.self.now in
    let b = c.args.buffer.now in
    let done : finished w ≡ true = told (c.finished.ensures ∙ same w c.lent.result c.lent.ensures) c.if-not-finished.false in
    let clear : ltb (length b) w.answer_len ≡ false = le-ltb (length b) w.answer_len (omega arith) in
    record {
      value = rw (done, clear);
      buffer_after = rw (done, clear) (ap (λ (x : List ℕ). x ++ drop w.answer_len b) c.copy_from_slice.ensures.after ∙ pasted b w.answer w.answer_len);
    }
