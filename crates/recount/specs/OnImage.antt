-- An entry's work made on an image by the unit's own openings and stores: the image afterwards, and none where the unit counts no such work there.
-- Defined for every image. Assumes nothing.
use Rattle.std.specs.Prelude.{ℕ, ⊤, Result, Ok, Err, Bool, true, false, cond, ◌&&◌, List, [], ltb}
use Rattle.std.proofs.Math.Option.{Option, none, some}
use Rattle.layout.specs.declared.refusals.Refusal.{Refusal}
use Rattle.layout.specs.declared.refusals.Refusal.TheVariants.{Uncounted}
use Rattle.work.specs.Entries.{left_of}
use Rattle.making.specs.Run.{all_stores}
use Rattle.journal.specs.Entries.{Entry, cold_boot, update, disabling, stash, extension, derive, extend, rotate, destroy}
use Rattle.opening.specs.Tasks.{Request, BootInputs}
use Rattle.opening.specs.Openings.{open_request, open_cold_boot, open_update_boot}
use Rattle.opening.specs.declared.Outcome.{Outcome}
use Rattle.opening.specs.declared.Outcome.TheVariants.{Cold, Kept, Updated, Disabled}
use Rattle.replaying.specs.Replay.{boot_from}
use Rattle.replaying.specs.Asked.{stash_asked, extension_asked, disable_asked, invoke_asked, derive_data, extend_data, rotate_data, destroy_data}

abbrev pub is_ready : Result ⊤ Refusal → Bool
is_ready (Ok u) = true
is_ready (Err r) = false

-- a request that is served: "A measurement declined .. stores nothing"
unfoldable pub request_made : List ℕ → Request → Option (List ℕ)
request_made image r =
    let o = open_request image r in
    cond (is_ready o.status && ltb 0 (left_of o.work)) (some (all_stores o.work image).image) none

abbrev pub is_update : Outcome → Bool
is_update Cold = false
is_update Kept = false
is_update Updated = true
is_update Disabled = false

abbrev pub is_updated : Result Outcome Refusal → Bool
is_updated (Ok o) = is_update o
is_updated (Err r) = false

-- an update boot that comes to an update, and not to a disabling
unfoldable pub update_made : List ℕ → BootInputs → Option (List ℕ)
update_made image x =
    let o = open_update_boot image x true in
    cond (is_updated o.status) (some (all_stores o.work image).image) none

abbrev pub is_booted : Result Outcome Refusal → Bool
is_booted (Ok o) = true
is_booted (Err r) = false

unfoldable pub cold_made : List ℕ → BootInputs → Option (List ℕ)
cold_made image x =
    let o = open_cold_boot image x in
    cond (is_booted o.status) (some (all_stores o.work image).image) none

unfoldable pub made_on : List ℕ → Entry → Option (List ℕ)
made_on image (cold_boot runtime manifest) = cold_made image (boot_from runtime manifest)
made_on image (update runtime manifest) = update_made image (boot_from runtime manifest)
made_on image disabling = request_made image disable_asked
made_on image (stash type digest svn caller) = request_made image (stash_asked type digest svn caller)
made_on image (extension register digest) = request_made image (extension_asked register digest)
made_on image (derive handle retain type digest fresh caller) = request_made image (invoke_asked (derive_data handle retain type digest) fresh caller)
made_on image (extend handle digest caller) = request_made image (invoke_asked (extend_data handle digest) [] caller)
made_on image (rotate handle fresh caller) = request_made image (invoke_asked (rotate_data handle) fresh caller)
made_on image (destroy handle caller) = request_made image (invoke_asked (destroy_data handle) [] caller)

-- whether it was made, and the image afterwards: where it was not, as it stood
abbrev pub is_made : Option (List ℕ) → Bool
is_made none = false
is_made (some after) = true

-- and what is told of it
abbrev pub counting_in : Option (List ℕ) → Result ⊤ Refusal
counting_in none = Err Uncounted
counting_in (some after) = Ok tt

abbrev pub image_after : Option (List ℕ) → List ℕ → List ℕ
image_after none image = image
image_after (some after) image = after
