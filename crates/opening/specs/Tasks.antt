-- What openings are given, and the piece of work that they come to, as raw inputs (document 01, "Mailbox", "Cold boot", "Update boot"). Assumes nothing.
use Rattle.std.specs.Prelude.{ℕ, Bool, List}
use Rattle.layout.specs.declared.refusals.Refusal.{Refusal}
use Rattle.tree.specs.Tree.{Tree}
use Rattle.opening.specs.Orders.{NodeCommand}

-- a request: command code, bytes, the caller's number (PAUSER), the handoff table, ROM's ECDSA verdict, and the fresh handle that the host lends
-- (document 02, §5)
pub record Request : Type 0 where
  pub code : ℕ
  pub bytes : List ℕ
  pub caller : ℕ
  pub handoff : List ℕ
  pub verdict : Bool
  pub fresh : List ℕ

abbrev pub request_of : ℕ → List ℕ → ℕ → List ℕ → Bool → List ℕ → Request
request_of code bytes caller handoff verdict fresh =
    record { code = code; bytes = bytes; caller = caller; handoff = handoff; verdict = verdict; fresh = fresh }

-- a boot's inputs: "runtime digest, secret", and between them the manifest digest (document 02, §2)
pub record BootInputs : Type 0 where
  pub runtime : List ℕ
  pub manifest : List ℕ
  pub secret : List ℕ

abbrev pub boot_of : List ℕ → List ℕ → List ℕ → BootInputs
boot_of runtime manifest secret = record { runtime = runtime; manifest = manifest; secret = secret }

-- what a stash measures: "type 4, digest 48, svn 4", and the caller
pub record Measurement : Type 0 where
  pub type : ℕ
  pub digest : List ℕ
  pub svn : ℕ
  pub caller : ℕ

-- what an extension (document 02, §1) extends: "register number, digest"
pub record RegisterExtension : Type 0 where
  pub register : ℕ
  pub digest : List ℕ

-- what a tree command (document 02, §5) is given: its data, the fresh handle if it takes one, the caller
pub record Order : Type 0 where
  pub command : NodeCommand
  pub fresh : List ℕ
  pub caller : ℕ

-- document 01's "work": a piece of work and all its inputs, as they were given
pub data Task : Type 0 where
  -- a request with nothing to store, and a boot that keeps all
  no_stores kept_boot : Task
  -- a disabling: by the disable command, or by an update boot
  disable_command disabling_boot : Task
  stash : Measurement → Task
  update cold_boot : BootInputs → Task
  extension : RegisterExtension → Task
  invoke : Order → Task

-- what an opening decides: a refusal, or a task and the bytes of its answer
pub data Ruling : Type 0 where
  refused : Refusal → Ruling
  accepted : Task → List ℕ → Ruling

-- all that the request rules see: is the mark 1, is attestation on, and the nodes
pub record View : Type 0 where
  pub done : Bool
  pub on : Bool
  pub nodes : Tree
