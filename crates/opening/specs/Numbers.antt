-- What an opening's answer says of its ruling: its number, and a boot's outcome. Nothing rests on it. Assumes nothing.
use Rattle.std.specs.Prelude.{ℕ, ◌≡◌, List}
use Rattle.std.proofs.Math.Option.{none, some}
use Rattle.layout.specs.Numbers.{refusal_number}
use Rattle.layout.specs.declared.refusals.Refusal.{Refusal}
use Rattle.opening.specs.Tasks.{BootInputs, Task, kept_boot, disabling_boot, update, cold_boot, refused, accepted}
use Rattle.opening.specs.Openings.{status_number, boot_number, outcome_in, opened_of, booted_of}

pub record NumberCards : Type 0 where
  -- "Success is 0"; a refusal has its number
  pub request_opened : (image : List ℕ) (t : Task) (a : List ℕ) → status_number (opened_of image (accepted t a)).status ≡ 0
  pub request_refused : (image : List ℕ) (r : Refusal) → status_number (opened_of image (refused r)).status ≡ refusal_number r
  pub boot_opened : (image : List ℕ) (t : Task) (a : List ℕ) → boot_number (booted_of image (accepted t a)).status ≡ 0
  pub boot_refused : (image : List ℕ) (r : Refusal) → boot_number (booted_of image (refused r)).status ≡ refusal_number r
  -- "Outcomes: 0 cold, 1 kept, 2 updated, 3 disabled."; a refused boot has none
  pub cold : (image : List ℕ) (x : BootInputs) (a : List ℕ) → outcome_in (booted_of image (accepted (cold_boot x) a)).status ≡ some 0
  pub kept : (image a : List ℕ) → outcome_in (booted_of image (accepted kept_boot a)).status ≡ some 1
  pub updated : (image : List ℕ) (x : BootInputs) (a : List ℕ) → outcome_in (booted_of image (accepted (update x) a)).status ≡ some 2
  pub disabled : (image a : List ℕ) → outcome_in (booted_of image (accepted disabling_boot a)).status ≡ some 3
  pub no_outcome : (image : List ℕ) (r : Refusal) → outcome_in (booted_of image (refused r)).status ≡ none
