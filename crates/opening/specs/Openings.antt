-- The three openings: from any image and any input to the whole answer. An opening reads the image and changes nothing. Assumes nothing.
use Rattle.std.specs.Prelude.{ℕ, ◌+◌, ⊤, Result, Ok, Err, Bool, not, ◌&&◌, List, ◌∷◌, eqb, length, get_or}
use Rattle.std.proofs.Math.Option.{Option, none, some}
use Rattle.layout.specs.Sizes.{node_count, image_words, register_words, mark_at, attestation_at, register_at, journey_register, current_at}
use Rattle.layout.specs.Below.{all_below}
use Rattle.layout.specs.Numbers.{refusal_number}
use Rattle.layout.specs.declared.refusals.Refusal.{Refusal}
use Rattle.layout.specs.declared.refusals.Refusal.TheVariants as refusal
use Rattle.tree.specs.Tree.{well_formed, root_in}
use Rattle.tree.specs.Nodes.{word, tree_in}
use Rattle.making.specs.Run.{all_stores}
use Rattle.making.specs.Made.{refused_work}
use Rattle.work.specs.declared.Work.{Work}
use Rattle.opening.specs.Tasks.{Request, BootInputs, cold_boot, Ruling, refused, accepted, View}
use Rattle.opening.specs.Rules.{Rule, refuses, command_of, ruled, request_rules, boot_rules, boot_ruling, update_task}
use Rattle.opening.specs.Works.{facts_of, work_at}
use Rattle.opening.specs.declared.Outcome.{Outcome}
use Rattle.opening.specs.declared.Outcome.TheVariants.{Cold, Kept, Updated, Disabled}
use Rattle.opening.specs.declared.Opened.{Opened}

-- ---- the numbers of an opening

-- "Success is 0"; a refusal has its number
abbrev pub status_number : {T : Type 0} → Result T Refusal → ℕ
status_number (Ok t) = 0
status_number (Err r) = refusal_number r

abbrev pub boot_number : Result Outcome Refusal → ℕ
boot_number s = status_number s

-- "Outcomes: 0 cold, 1 kept, 2 updated, 3 disabled."
abbrev pub outcome_number : Outcome → ℕ
outcome_number Cold = 0
outcome_number Kept = 1
outcome_number Updated = 2
outcome_number Disabled = 3

-- the number of a boot's outcome; none where it was refused
abbrev pub outcome_in : Result Outcome Refusal → Option ℕ
outcome_in (Ok o) = some (outcome_number o)
outcome_in (Err r) = none

-- ---- from a ruling to the answer

-- an accepted work with what is told of it, or a refusal, as an answer
abbrev pub opened : {T : Type 0} → Result (Work × T) Refusal → Opened T
opened (Ok a) = record { work = a.0; status = Ok a.1 }
opened (Err r) = record { work = refused_work; status = Err r }

-- what a boot's task comes to (no request's task is opened as a boot)
abbrev pub outcome_of : Option Outcome → Outcome
outcome_of none = Kept
outcome_of (some o) = o

abbrev pub opened_of : List ℕ → Ruling → Opened ⊤
opened_of image (refused r) = record { work = refused_work; status = Err r }
opened_of image (accepted t a) = record { work = work_at image t a; status = Ok tt }

abbrev pub booted_of : List ℕ → Ruling → Opened Outcome
booted_of image (refused r) = record { work = refused_work; status = Err r }
booted_of image (accepted t a) = record { work = work_at image t a; status = Ok (outcome_of (facts_of t).boot) }

-- ---- the openings

-- "1 image not .. words": of another length
abbrev pub size_rule : List ℕ → Rule
size_rule image = refuses refusal.WrongImage (not (eqb (length image) image_words))

-- what the request rules see of an image: "flow mark: 1 is done, anything else is unfinished"; "attestation: 1 is on, anything else is off"
unfoldable pub view_in : List ℕ → View
view_in image = record { done = eqb (get_or image mark_at 0) 1; on = eqb (get_or image attestation_at 0) 1; nodes = tree_in image }

unfoldable pub open_request : List ℕ → Request → Opened ⊤
open_request image r = opened_of image (ruled (size_rule image ∷ request_rules (view_in image) r) (command_of r.code) r)

unfoldable pub open_cold_boot : List ℕ → BootInputs → Opened Outcome
open_cold_boot image x = booted_of image (boot_ruling (size_rule image ∷ boot_rules x) (cold_boot x))

-- "root's current" like PCR3, word for word
unfoldable pub root_matches : List ℕ → Bool
root_matches image =
    let root = root_in node_count (tree_in image) in
    all_below register_words (λ k. eqb (word image root (current_at + k)) (get_or image (register_at journey_register + k) 0))

-- the image that an update boot need not disable: done, on, well formed, and the root measures the journey
unfoldable pub intact : List ℕ → Bool
intact image =
    eqb (get_or image mark_at 0) 1 && (eqb (get_or image attestation_at 0) 1 && (well_formed node_count (tree_in image) && root_matches image))

unfoldable pub open_update_boot : List ℕ → BootInputs → Bool → Opened Outcome
open_update_boot image x verdict = booted_of image (boot_ruling (size_rule image ∷ boot_rules x) (update_task (intact image) verdict x))

-- ---- a cold boot run to its end

-- all stores of an accepted boot; a refused one stores nothing
abbrev pub stored_by : List ℕ → Work → Result Outcome Refusal → List ℕ
stored_by image w (Ok o) = (all_stores w image).image
stored_by image w (Err r) = image

unfoldable pub cold_booted : List ℕ → BootInputs → List ℕ
cold_booted image x = let b = open_cold_boot image x in stored_by image b.work b.status
