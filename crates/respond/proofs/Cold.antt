-- The program's image has an image's length, since a boot's stores keep it. Assumes nothing.
use Prim.Native.Nat.{ℕ}
use mathlib.Core.Path.{◌≡◌, refl, ◌∙◌}
use mathlib.Core.List.{List}
use lib.ListN.{length}
use Rattle.std.specs.Prelude.{Result, Ok, Err}
use Rattle.layout.specs.declared.refusals.Refusal.{Refusal}
use Rattle.layout.specs.Sizes.{image_words}
use Rattle.layout.specs.Words.{zeros}
use Rattle.layout.proofs.Tab.{length_zeros}
use Rattle.work.specs.declared.Work.{Work}
use Rattle.making.proofs.After.{all_length}
use Rattle.opening.specs.Openings.{open_cold_boot, stored_by, cold_booted}
use Rattle.opening.specs.declared.Outcome.{Outcome}
use Rattle.respond.specs.Program.{program_boot, cold_image}

stored_length : (l : List ℕ) (w : Work) (s : Result Outcome Refusal) → length (stored_by l w s) ≡ length l
stored_length l w (Ok o) = all_length w l
stored_length l w (Err r) = refl

pub cold_length : length cold_image ≡ image_words
unfolding cold_image cold_booted
cold_length =
    let b = open_cold_boot (zeros image_words) program_boot in
    stored_length (zeros image_words) b.work b.status ∙ length_zeros image_words
