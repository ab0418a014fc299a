-- A work and its parts: what is left, a store's number and the image it leaves are those of the parts, whatever the answer's bytes. Each
-- side computes to the same. Assumes nothing.
use mathlib.Core.Path.{◌≡◌, refl}
use mathlib.Core.List.{List}
use Prim.Native.Nat.{ℕ}
use Rattle.work.specs.Entries.{put_of, runs_of}
use Rattle.work.specs.Entries.{well_shaped, left_of, finished, store_given, store_number, store_image}
use Rattle.work.specs.Parts.{storing, standing}
use Rattle.work.specs.declared.Work.{Work}

abbrev pub standing_of : Work → Work
standing_of w = standing w.kind w.position w.answer_len w.node

abbrev pub storing_of : Work → Work
storing_of w = storing w.kind w.position w.answer_len w.register w.journey w.node w.secret

pub shaped_standing : (w : Work) → well_shaped (standing_of w) ≡ well_shaped w
unfolding well_shaped
shaped_standing w = refl

pub finished_standing : (w : Work) → finished (standing_of w) ≡ finished w
unfolding finished well_shaped
finished_standing w = refl

pub left_standing : (w : Work) → left_of (standing_of w) ≡ left_of w
unfolding left_of well_shaped
left_standing w = refl

pub given_storing : (w : Work) (image : List ℕ) → store_given (storing_of w) image ≡ store_given w image
unfolding store_given left_of well_shaped
given_storing w image = refl

pub left_storing : (w : Work) → left_of (storing_of w) ≡ left_of w
unfolding left_of well_shaped
left_storing w = refl

pub finished_storing : (w : Work) → finished (storing_of w) ≡ finished w
unfolding finished well_shaped
finished_storing w = refl

pub number_standing : (w : Work) (image : List ℕ) → store_number (standing_of w) image ≡ store_number w image
unfolding store_number store_given left_of well_shaped
number_standing w image = refl

pub number_storing : (w : Work) (image : List ℕ) → store_number (storing_of w) image ≡ store_number w image
unfolding store_number store_given left_of well_shaped
number_storing w image = refl

pub image_storing : (w : Work) (image : List ℕ) → store_image (storing_of w) image ≡ store_image w image
unfolding store_image store_number store_given left_of well_shaped put_of runs_of
image_storing w image = refl
