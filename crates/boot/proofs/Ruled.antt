-- What the rules gave is a boot's answer, and so its numbers. Assumes nothing.
use Prim.Native.Nat.{ℕ}
use mathlib.Core.Path.{◌≡◌, refl, ap, ◌∙◌}
use mathlib.Core.Bool.{Bool}
use mathlib.Core.List.{List, ◌∷◌}
use Rattle.opening.specs.Tasks.{BootInputs, cold_boot, Ruling, refused, accepted}
use Rattle.opening.specs.Rules.{boot_rules, boot_ruling, update_task}
use Rattle.opening.specs.Openings.{boot_number, outcome_in, opened, booted_of, size_rule, intact, open_cold_boot, open_update_boot}
use Rattle.opening.specs.declared.Opened.{Opened}
use Rattle.opening.specs.declared.Outcome.{Outcome}
use Rattle.boot.specs.Given.{ruled_boot, cold_ruled, update_ruled}

same : (image : List ℕ) (x : Ruling) → opened (ruled_boot image x) ≡ booted_of image x
same image (refused n) = refl
same image (accepted t a) = refl

numbers : (o x : Opened Outcome) → o ≡ x → (o ≡ x) × ((boot_number o.status ≡ boot_number x.status) × (outcome_in o.status ≡ outcome_in x.status))
numbers o x e = (e, (ap (λ (y : Opened Outcome). boot_number y.status) e, ap (λ (y : Opened Outcome). outcome_in y.status) e))

pub cold_answer : (image : List ℕ) (x : BootInputs) (o : Opened Outcome) → o ≡ opened (cold_ruled image x)
    → let b = open_cold_boot image x in (o ≡ b) × ((boot_number o.status ≡ boot_number b.status) × (outcome_in o.status ≡ outcome_in b.status))
unfolding open_cold_boot cold_ruled
cold_answer image x o e = numbers o _ (e ∙ same image (boot_ruling (size_rule image ∷ boot_rules x) (cold_boot x)))

pub update_answer : (image : List ℕ) (x : BootInputs) (v : Bool) (o : Opened Outcome) → o ≡ opened (update_ruled image x v)
    → let b = open_update_boot image x v in (o ≡ b) × ((boot_number o.status ≡ boot_number b.status) × (outcome_in o.status ≡ outcome_in b.status))
unfolding open_update_boot update_ruled
update_answer image x v o e = numbers o _ (e ∙ same image (boot_ruling (size_rule image ∷ boot_rules x) (update_task (intact image) v x)))
