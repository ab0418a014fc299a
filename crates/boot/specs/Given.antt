-- The code's record of accepted inputs, as the definitions' one; what is tested of every boot, and what a boot answers then. Assumes nothing.
use Rattle.std.specs.Prelude.{ℕ, ◌≡◌, List, [], ◌∷◌, Bool, cond, Result, Ok, Err, MatchResult, length}
use Rattle.layout.specs.Sizes.{image_words}
use Rattle.layout.specs.declared.refusals.Refusal.{Refusal}
use Rattle.layout.specs.declared.refusals.Refusal.TheVariants as refusal
use Rattle.work.specs.declared.Work.{Work}
use Rattle.opening.specs.Tasks.{BootInputs, boot_of, cold_boot, Task, Ruling, refused, accepted}
use Rattle.opening.specs.Rules.{inputs_ok, boot_rules, boot_ruling, update_task}
use Rattle.opening.specs.Works.{facts_of, work_at}
use Rattle.opening.specs.Openings.{size_rule, intact, outcome_of}
use Rattle.opening.specs.declared.Outcome.{Outcome}
use Rattle.boot.specs.declared.inputs.Inputs.{Inputs}

abbrev pub given : Inputs → BootInputs
given x = boot_of x.runtime x.manifest x.secret

-- "6 digest or secret not 48 bytes, or secret all zero"
abbrev pub accepted_in : BootInputs → Result Inputs Refusal
accepted_in x = cond (inputs_ok x) (Ok (record { runtime = x.runtime; manifest = x.manifest; secret = x.secret })) (Err refusal.WrongInputs)

-- "1 image not .. words" and 6 wrong inputs, whatever the task
abbrev pub Screens : List ℕ → BootInputs → Result Inputs Refusal → Type 0
Screens image b r =
    MatchResult r
    (λ x. (length image ≡ image_words) × (given x ≡ b) × ((t : Task) → boot_ruling (size_rule image ∷ boot_rules b) t ≡ accepted t []))
    (λ e. (t : Task) → boot_ruling (size_rule image ∷ boot_rules b) t ≡ refused e)

-- a ruling's work and outcome, or its refusal
abbrev pub ruled_boot : List ℕ → Ruling → Result (Work × Outcome) Refusal
ruled_boot image (refused r) = Err r
ruled_boot image (accepted t a) = Ok (work_at image t a, outcome_of (facts_of t).boot)

-- what the rules give at any image
unfoldable pub cold_ruled : List ℕ → BootInputs → Result (Work × Outcome) Refusal
cold_ruled image x = ruled_boot image (boot_ruling (size_rule image ∷ boot_rules x) (cold_boot x))

unfoldable pub update_ruled : List ℕ → BootInputs → Bool → Result (Work × Outcome) Refusal
update_ruled image x verdict = ruled_boot image (boot_ruling (size_rule image ∷ boot_rules x) (update_task (intact image) verdict x))
