-- What a test of the code comes to in the definitions of work made on an image. Assumes nothing.
use mathlib.Core.Path.{◌≡◌, refl}
use Prim.Native.Nat.{ℕ}
use mathlib.Core.Bool.{Bool, true, false, cond, not}
use mathlib.Core.List.{List, []}
use mathlib.Core.Option.{Option, none, some}
use lib.Dec.{eqb}
use lib.ListN.{length}
use Rattle.std.specs.Prelude.{Ok, Err}
use Rattle.std.specs.Result.{result_and, result_or}
use Rattle.layout.specs.Sizes.{image_words}
use Rattle.layout.specs.declared.refusals.Refusal.TheVariants as refusal
use Rattle.making.specs.Run.{all_stores}
use Rattle.opening.specs.Tasks.{BootInputs, cold_boot, refused, accepted}
use Rattle.opening.specs.Rules.{inputs_ok}
use Rattle.opening.specs.Openings.{booted_of, open_cold_boot, stored_by, cold_booted}
use Rattle.opening.specs.declared.Opened.{Opened}
use Rattle.opening.specs.declared.Outcome.{Outcome}
use Rattle.recount.specs.OnImage.{counting_in, image_after, is_booted, cold_made}

-- a cold boot that is refused was not made
pub cold_told : (image : List ℕ) (x : BootInputs)
    → (result_or (result_and (open_cold_boot image x).status (Ok tt)) (Err refusal.Uncounted) ≡ counting_in (cold_made image x)) × (cold_booted image x ≡ image_after (cold_made image x) image)
unfolding open_cold_boot cold_made cold_booted
cold_told image x = by_tests (not (eqb (length image) image_words)) (not (inputs_ok x))
  where
    made : Opened Outcome → Option (List ℕ)
    made o = cond (is_booted o.status) (some (all_stores o.work image).image) none

    Told : Opened Outcome → Type 0
    Told o = (result_or (result_and o.status (Ok tt)) (Err refusal.Uncounted) ≡ counting_in (made o)) × (stored_by image o.work o.status ≡ image_after (made o) image)

    by_tests : (a b : Bool) → Told (booted_of image (cond a (refused refusal.WrongImage) (cond b (refused refusal.WrongInputs) (accepted (cold_boot x) []))))
    by_tests true b = (refl, refl)
    by_tests false true = (refl, refl)
    by_tests false false = (refl, refl)
