-- All stores of a work, one by one: what they leave of the work, of the image's length and, for a well-shaped work, of the image. Assumes nothing.
use Prim.Native.Nat.{ℕ, zero, suc, ◌+◌, ◌-◌, ◌≤◌, ◌<◌}
use mathlib.Core.Path.{◌≡◌, refl, sym, ap, ◌∙◌}
use mathlib.Core.Bool.{Bool, true, false, cond}
use mathlib.Core.List.{List, [], ◌∷◌}
use native.Mathlib.Nat.{le_of_suc-le-suc, not-suc-le-zero}
use native.Mathlib.Omega.{arith}
use lib.Dec.{eqb}
use lib.ListN.{length, get_or, set, drop, length-set}
use borrow.Author.Tests.{eq-eqb, le-leb, lt-ltb}
use Rattle.layout.specs.Sizes.{image_words, answer_max}
use Rattle.layout.specs.Refusals.{no_store_left}
use Rattle.work.specs.declared.Work.{Work}
use Rattle.table.specs.declared.Put.{Put}
use Rattle.table.specs.Table.{put, number_of}
use Rattle.work.specs.Entries.{runs_of, put_of}
use Rattle.work.specs.Entries.{Stored, well_shaped, left_of, moved, store_given, store_number, store_result, store_image, finished}
use Rattle.making.specs.Run.{after_stores, all_stores}
use Rattle.work.proofs.Shape.{shaped_index, shaped_answer, shaped_position, left_position}
use Rattle.work.proofs.Plans.{apply, plan, length_plan, put_plan}

-- ---- one store: made, or refused for want of one

pub store_made : (w : Work) (l : List ℕ) → length l ≡ image_words → 0 < left_of w
    → (store_result w l ≡ record { number = 0; work = moved w }) × (store_image w l ≡ set l (put_of w).address (put_of w).value)
unfolding store_result store_image store_number store_given
store_made w l e h = (rw (e, lt-ltb 0 (left_of w) h), rw (e, lt-ltb 0 (left_of w) h))

pub store_refused : (w : Work) (l : List ℕ) → length l ≡ image_words → left_of w ≡ 0
    → (store_result w l ≡ record { number = no_store_left; work = w }) × (store_image w l ≡ l)
unfolding store_result store_image store_number store_given
store_refused w l e h = (rw (e, h), rw (e, h))

-- ---- a loop that makes them: its step, and its end

pub after_step : (k j : ℕ) (w : Work) (l : List ℕ) → k ≡ j + 1 → after_stores k w l ≡ after_stores j (store_result w l).work (store_image w l)
after_step k j w l h = let e : k ≡ suc j = omega arith in ap (λ (n : ℕ). after_stores n w l) e

pub after_none : (k : ℕ) (w : Work) (l : List ℕ) → k ≡ 0 → after_stores k w l ≡ record { work = w; image = l }
after_none k w l h = ap (λ (n : ℕ). after_stores n w l) h

-- ---- what does not depend on the position, and the image's length, stay

module _ {A : Type 0} (f : Work → A) (same : (w : Work) → f (moved w) ≡ f w) where
  store_kept : (w : Work) (l : List ℕ) → f (store_result w l).work ≡ f w
  unfolding store_result
  store_kept w l = by_test (eqb (store_number w l) 0)
    where
      by_test : (b : Bool) → f (cond {A = Stored} b (record { number = 0; work = moved w }) (record { number = store_number w l; work = w })).work ≡ f w
      by_test true = same w
      by_test false = refl

  kept_after : (n : ℕ) (w : Work) (l : List ℕ) → f (after_stores n w l).work ≡ f w
  kept_after zero w l = refl
  kept_after (suc n) w l = kept_after n (store_result w l).work (store_image w l) ∙ store_kept w l

  pub all_kept : (w : Work) (l : List ℕ) → f (all_stores w l).work ≡ f w
  unfolding all_stores
  all_kept w l = kept_after (left_of w) w l

-- the same answer in both works
pub record SameAnswer (w v : Work) : Type 0 where
  pub bytes : w.answer ≡ v.answer
  pub len : w.answer_len ≡ v.answer_len

pub all_answer : (w : Work) (l : List ℕ) → SameAnswer (all_stores w l).work w
all_answer w l = record { bytes = all_kept (λ (x : Work). x.answer) (λ x. refl) w l; len = all_kept (λ (x : Work). x.answer_len) (λ x. refl) w l }

store_length : (w : Work) (l : List ℕ) → length (store_image w l) ≡ length l
unfolding store_image
store_length w l = by_test (eqb (store_number w l) 0)
  where
    by_test : (b : Bool) → length (cond b (set l (put_of w).address (put_of w).value) l) ≡ length l
    by_test true = length-set l (put_of w).address (put_of w).value
    by_test false = refl

length_stays : (n : ℕ) (w : Work) (l : List ℕ) → length (after_stores n w l).image ≡ length l
length_stays zero w l = refl
length_stays (suc n) w l = length_stays n (store_result w l).work (store_image w l) ∙ store_length w l

pub all_length : (w : Work) (l : List ℕ) → length (all_stores w l).image ≡ length l
unfolding all_stores
all_length w l = length_stays (left_of w) w l

-- ---- a well-shaped work: after its last store it is finished, and the image has its stores in order

left_shaped : (w : Work) → well_shaped w ≡ true → left_of w ≡ number_of w.kind - w.position
unfolding left_of
left_shaped w s = rw s

none_left : (w : Work) → well_shaped w ≡ true → left_of w ≡ 0 → finished w ≡ true
unfolding finished
none_left w s h = rw (s, eq-eqb w.position (number_of w.kind) (omega (arith, left_shaped w s, shaped_position w s)))

moved_shaped : (w : Work) → well_shaped w ≡ true → 0 < left_of w → well_shaped (moved w) ≡ true
unfolding well_shaped
moved_shaped w s h =
    rw
    (shaped_index w s, le-leb w.answer_len answer_max (shaped_answer w s), le-leb (w.position + 1) (number_of w.kind) (omega (arith, left_position w h)))

-- the stores of a work do not depend on its position
plan_moved : (w : Work) → plan (moved w) ≡ plan w
unfolding plan runs_of
plan_moved w = refl

drop_one : (ps : List Put) (k : ℕ) (l : List ℕ) → k < length ps
    → apply (drop k ps) l ≡ apply (drop (k + 1) ps) (set l (get_or ps k (put 0 0)).address (get_or ps k (put 0 0)).value)
drop_one [] k l h = absurd (not-suc-le-zero h)
drop_one (p ∷ ps) zero l h = refl
drop_one (p ∷ ps) (suc k) l h =
    let e : suc (k + 1) ≡ suc k + 1 = omega arith in
    drop_one ps k l (le_of_suc-le-suc h)
    ∙ ap (λ (n : ℕ). apply (drop n (p ∷ ps)) (set l (get_or ps k (put 0 0)).address (get_or ps k (put 0 0)).value)) e

module _ (l : List ℕ) (size : length l ≡ image_words) where
  made_all : (n : ℕ) (w : Work) (m : List ℕ) → length m ≡ image_words → well_shaped w ≡ true → n ≡ left_of w
      → (finished (after_stores n w m).work ≡ true) × ((after_stores n w m).image ≡ apply (drop w.position (plan w)) m)
  made_all zero w m e s h =
      (none_left w s (sym h), sym (ap (λ (ps : List Put). apply ps m) (drop_end (plan w) w.position (omega (arith, length_plan w, left_shaped w s)))))
    where
      drop_end : (ps : List Put) (k : ℕ) → length ps ≤ k → drop k ps ≡ []
      drop_end [] zero b = refl
      drop_end [] (suc k) b = refl
      drop_end (p ∷ ps) zero b = absurd (not-suc-le-zero b)
      drop_end (p ∷ ps) (suc k) b = drop_end ps k (le_of_suc-le-suc b)
  made_all (suc n) w m e s h =
      let some : 0 < left_of w = omega arith in
      let v = moved_shaped w s some in
      let one = store_made w m e some in
      let rest = made_all n (moved w) (store_image w m) (store_length w m ∙ e) v (omega (arith, left_shaped w s, left_shaped (moved w) v)) in (
        ap (λ (x : Work). finished (after_stores n x (store_image w m)).work) (ap (λ (r : Stored). r.work) one.0) ∙ rest.0,
        ap (λ (x : Work). (after_stores n x (store_image w m)).image) (ap (λ (r : Stored). r.work) one.0)
            ∙ rest.1
            ∙ ap (λ (ps : List Put). apply (drop (w.position + 1) ps) (store_image w m)) (plan_moved w)
            ∙ ap (apply (drop (w.position + 1) (plan w))) (one.1 ∙ ap (λ (p : Put). set m p.address p.value) (put_plan w))
            ∙ sym (drop_one (plan w) w.position m (omega (arith, length_plan w, left_shaped w s))),
      )

  pub all_finished : (w : Work) → well_shaped w ≡ true → finished (all_stores w l).work ≡ true
  unfolding all_stores
  all_finished w s = (made_all (left_of w) w l size s refl).0

  -- a work of which no store was made
  pub all_made : (w : Work) → well_shaped w ≡ true → w.position ≡ 0 → (all_stores w l).image ≡ apply (plan w) l
  unfolding all_stores
  all_made w s p = (made_all (left_of w) w l size s refl).1 ∙ ap (λ (k : ℕ). apply (drop k (plan w)) l) p
