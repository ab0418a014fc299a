-- Card 10: what the small program writes for a disable command. Assumes nothing.
use mathlib.Core.Path.{◌≡◌, ap, ◌∙◌}
use Prim.Native.Nat.{ℕ}
use mathlib.Core.List.{List, [], ◌∷◌, ◌++◌}
use lib.ListN.{length, get_or}
use borrow.Author.Tests.{eq-eqb}
use Rattle.layout.specs.Sizes.{image_words, mark_at}
use Rattle.layout.specs.Words.{bytes4, zeros}
use Rattle.layout.specs.Below.{all_below}
use Rattle.layout.proofs.Tab.{length_zeros}
use Rattle.message.specs.Checksum.{checksum_of}
use Rattle.making.specs.Made.{work_with}
use Rattle.opening.specs.Tasks.{cold_boot, disable_command, accepted}
use Rattle.opening.specs.Rules.{inputs_ok, wrong_checksum, answer_of}
use Rattle.opening.specs.Works.{work_at}
use Rattle.opening.specs.Openings.{opened_of, view_in, boot_number, open_request, open_cold_boot}
use Rattle.history.specs.Ledger.{Contents, next, blank, image_of}
use Rattle.history.proofs.Encoded.{length_image, mark_read}
use Rattle.history.proofs.Good.{good_cold}
use Rattle.history.proofs.Demand.{cold_image_law}
use Rattle.respond.specs.Program.{program_boot, cold_image, request_in, written, output_of, program_output}

-- the program's cold boot is accepted
boot_accepted : boot_number (open_cold_boot (zeros image_words) program_boot).status ≡ 0
unfolding open_cold_boot inputs_ok all_below
boot_accepted = rw (eq-eqb (length (zeros image_words)) image_words (length_zeros image_words))

-- so its image is the book's
abbrev booted : Contents
booted = next blank (cold_boot program_boot)

image_is : cold_image ≡ image_of 1 1 booted
unfolding cold_image
image_is = cold_image_law (zeros image_words) program_boot boot_accepted

size : length cold_image ≡ image_words
size = ap length image_is ∙ length_image 1 1 booted (good_cold blank.chain program_boot).shape

done : get_or cold_image mark_at 0 ≡ 1
done = ap (λ (l : List ℕ). get_or l mark_at 0) image_is ∙ mark_read 1 1 booted

abbrev input : List ℕ
input = 0x4C ∷ 0x42 ∷ 0x53 ∷ 0x44 ∷ 0xDB ∷ 0xFE ∷ 0xFF ∷ 0xFF ∷ []

-- a disable command is accepted at every image whose size and mark are fine
disables : (image : List ℕ) → length image ≡ image_words → get_or image mark_at 0 ≡ 1
    → open_request image (request_in input) ≡ opened_of image (accepted disable_command (answer_of []))
unfolding open_request view_in request_in wrong_checksum checksum_of
disables image s d = rw (s, d)

-- number 0 and the answer
pub disabled_output : program_output input ≡ bytes4 0 ++ answer_of []
unfolding program_output output_of written work_at work_with answer_of
disabled_output = rw (disables cold_image size done)
