-- The command that a code names, what is tested of every request's length and checksum, and what its command answers then. Assumes nothing.
use Rattle.std.specs.Prelude.{ℕ, ◌≡◌, ⊤, false, cond, List, ◌∷◌, Result, Ok, Err, MatchResult}
use Rattle.layout.specs.declared.refusals.Refusal.{Refusal}
use Rattle.layout.specs.declared.refusals.Refusal.TheVariants as refusal
use Rattle.work.specs.declared.Work.{Work}
use Rattle.opening.specs.Tasks.{Request, Ruling, refused, accepted}
use Rattle.opening.specs.Rules.{wrong_checksum, Command, stash_measurement, disable_attestation, identity_key, verify_signature, extend_register, invoke_dpe, command_of, ruled, request_rules}
use Rattle.opening.specs.Works.{work_at}
use Rattle.opening.specs.Openings.{size_rule, view_in}
use Rattle.request.specs.declared.command.Command as named
use Rattle.request.specs.declared.command.Command.TheVariants.{Stash, Disable, Identity, Verify, Extend, Invoke}

-- the row of the table of commands
abbrev pub row_of : named.Command → Command
row_of Stash = stash_measurement
row_of Disable = disable_attestation
row_of Identity = identity_key
row_of Verify = verify_signature
row_of Extend = extend_register
row_of Invoke = invoke_dpe

-- a code's command; "3 unknown code"
abbrev pub Names : ℕ → Result named.Command Refusal → Type 0
Names code r = MatchResult r (λ k. command_of code ≡ row_of k) (λ e. ((command_of code).known ≡ false) × (e ≡ refusal.UnknownCode))

-- "4 wrong request length; 0x4243484B bad checksum"
unfoldable pub screen_of : Command → ℕ → List ℕ → Result ⊤ Refusal
screen_of c code bytes = cond (c.length_ok bytes) (cond (wrong_checksum code bytes) (Err refusal.BadChecksum) (Ok tt)) (Err refusal.WrongLength)

-- a ruling's work, or its refusal
abbrev pub ruled_work : List ℕ → Ruling → Result Work Refusal
ruled_work image (refused r) = Err r
ruled_work image (accepted t a) = Ok (work_at image t a)

-- what a command answers at an image whose size and mark are fine, once the screen has passed
unfoldable pub screened_opened : Command → List ℕ → Request → Result Work Refusal
screened_opened c image r = ruled_work image (ruled (c.rules (view_in image) r) c r)

-- and what the rules give at any image
unfoldable pub request_ruled : List ℕ → Request → Result Work Refusal
request_ruled image r = ruled_work image (ruled (size_rule image ∷ request_rules (view_in image) r) (command_of r.code) r)

-- nothing is told of an accepted request's work
abbrev pub told : Result Work Refusal → Result (Work × ⊤) Refusal
told (Ok w) = Ok (w, tt)
told (Err r) = Err r
