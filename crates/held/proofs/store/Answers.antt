-- `store` meets its contract: words of another length stay; a refused store leaves the words (`words_kept`); a made one moves the
-- position (`words_moved`), which fits as a store was left. Assumes nothing.
use native.Mathlib.Omega.{arith}
use Prim.Native.Nat.{ℕ}
use mathlib.Core.List.{List}
use mathlib.Core.Path.{◌≡◌, refl, sym, ap, ◌∙◌}
use lib.ListN.{length}
use borrow.Author.Tests.{ne_eqb, eqb-false}
use Rattle.std.proofs.Common.{Result}
use Rattle.layout.specs.declared.refusals.Refusal.{Refusal}
use Rattle.work.specs.declared.Work.{Work}
use Rattle.work.specs.declared.lent.Lent.{Lent}
use Rattle.work.specs.Entries.{store_given, store_number, store_image}
use Rattle.work.specs.Parts.{lent_work}
use Rattle.work.proofs.Shape.{left_below}
use Rattle.work.proofs.Parts.{storing_of, given_storing, image_storing}
use Rattle.work.proofs.Numbered.{made_number, made_allowed, refused_number, refused_fails}
use Rattle.flat.specs.Flat.{work_size, work_of}
use Rattle.flat.specs.Forms.{store_number_in, store_words, store_hand, store_image_in}
use Rattle.held.proofs.Stored.{number_in, image_in, words_kept, words_moved, hand_in}
use Rattle.held.proofs.store.Goals as goal

pub returns-then-work-ne-WORK_WORDS : goal.returns-then-work-ne-WORK_WORDS
unfolding store_number_in store_words store_hand store_image_in
returns-then-work-ne-WORK_WORDS c =
    let wrong = c.if-work-ne-WORK_WORDS.true in
    record {
      value = rw (ne_eqb (length c.args.work.now) work_size wrong);
      work_after = rw (ne_eqb (length c.args.work.now) work_size wrong);
      work_after_2 = rw (ne_eqb (length c.args.work.now) work_size wrong);
      image_after = rw (ne_eqb (length c.args.work.now) work_size wrong);
    }

-- what the parts' store gives is the work's
given : (l image : List ℕ) (x : Lent) {r s : Result (Unit {0}) Refusal} → r ≡ store_given (lent_work x) image → lent_work x ≡ storing_of (work_of l) → r ≡ s
    → store_given (work_of l) image ≡ s
given l image x e p i = sym (given_storing (work_of l) image) ∙ ap (λ (w : Work). store_given w image) (sym p) ∙ sym e ∙ i

image_of : (l image : List ℕ) (x : Lent) → lent_work x ≡ storing_of (work_of l) → store_image (lent_work x) image ≡ store_image (work_of l) image
image_of l image x p = ap (λ (w : Work). store_image w image) p ∙ image_storing (work_of l) image

pub returns-in-Err : goal.returns-in-Err
returns-in-Err c =
    let l = c.args.work.now in
    let image = c.args.image.now in
    let g = given l image c.lent.result c.store.ensures.value c.lent.ensures c.in-Err.is in
    let n = c.from.ensures ∙ sym (refused_number (work_of l) image g) in
    let k = words_kept l image (omega arith) c.from.result n (λ z. eqb-false (store_number (work_of l) image) 0 (refused_fails (work_of l) image g) (sym n ∙ z)) in
    record {
      value = number_in l image (omega arith) c.from.result n;
      work_after = k;
      work_after_2 = hand_in l image (omega arith) c.from.result n _ k;
      image_after = image_in l image (omega arith) c.from.result n _ (c.store.ensures.image_after ∙ image_of l image c.lent.result c.lent.ensures);
    }

pub move_on-requires : goal.move_on-requires
move_on-requires c =
    let l = c.args.work.now in
    let image = c.args.image.now in
    let g = given l image c.lent.result c.store.ensures.value c.lent.ensures c.in_default.is in
    record { work_len = omega arith; work_bound = omega (arith, left_below (work_of l) (made_allowed (work_of l) image g).some) }

pub returns : goal.returns
returns c =
    let l = c.args.work.now in
    let image = c.args.image.now in
    let g = given l image c.lent.result c.store.ensures.value c.lent.ensures c.in_default.is in
    let n = sym (made_number (work_of l) image g) in
    let k = c.move_on.ensures ∙ words_moved l image (omega arith) 0 n refl in
    record {
      value = number_in l image (omega arith) 0 n;
      work_after = k;
      work_after_2 = hand_in l image (omega arith) 0 n _ k;
      image_after = image_in l image (omega arith) 0 n _ (c.store.ensures.image_after ∙ image_of l image c.lent.result c.lent.ensures);
    }
