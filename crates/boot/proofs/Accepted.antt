-- On an image of the right length, what the inputs come to is what the first two rules do. Assumes nothing.
use Prim.Native.Nat.{ℕ}
use mathlib.Core.Path.{◌≡◌, refl}
use mathlib.Core.Bool.{Bool, true, false, cond}
use mathlib.Core.List.{List}
use lib.ListN.{length}
use borrow.Author.Tests.{eq-eqb}
use Rattle.std.specs.Prelude.{Result, Ok, Err}
use Rattle.layout.specs.Sizes.{image_words}
use Rattle.layout.specs.declared.refusals.Refusal.{Refusal}
use Rattle.layout.specs.declared.refusals.Refusal.TheVariants as refusal
use Rattle.opening.specs.Tasks.{BootInputs}
use Rattle.opening.specs.Rules.{inputs_ok}
use Rattle.boot.specs.declared.inputs.Inputs.{Inputs}
use Rattle.boot.specs.Given.{accepted_in, Screens}

abbrev whole : BootInputs → Inputs
whole x = record { runtime = x.runtime; manifest = x.manifest; secret = x.secret }

pub screens : (image : List ℕ) (b : BootInputs) → length image ≡ image_words → (r : Result Inputs Refusal) → r ≡ accepted_in b → Screens image b r
screens image b l r h = rw h (go (inputs_ok b) refl)
  where
    go : (t : Bool) → inputs_ok b ≡ t → Screens image b (cond t (Ok (whole b)) (Err refusal.WrongInputs))
    go true e = (l, refl, λ u. rw (eq-eqb (length image) image_words l, e))
    go false e = λ u. rw (eq-eqb (length image) image_words l, e)
