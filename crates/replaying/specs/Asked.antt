-- The request by which a host asks for the work that an entry tells. Assumes nothing.
use Rattle.std.specs.Prelude.{ℕ, false, List, [], ◌∷◌, ◌++◌, length}
use Rattle.layout.specs.Words.{bytes4}
use Rattle.message.specs.Checksum.{checksum_of}
use Rattle.opening.specs.Tasks.{Request, request_of}
use Rattle.opening.specs.Rules.{stash_code, disable_code, extend_code, invoke_code}
use Rattle.journal.specs.Numbers.{number_bytes}

-- a request's bytes: the checksum, and the rest
abbrev pub sealed : ℕ → List ℕ → List ℕ
sealed code rest = bytes4 (checksum_of code rest) ++ rest

-- "checksum, type 4, digest 48, svn 4", and the caller
abbrev pub stash_asked : ℕ → List ℕ → ℕ → ℕ → Request
stash_asked type digest svn caller = request_of stash_code (sealed stash_code (bytes4 type ++ (digest ++ bytes4 svn))) caller [] false []

-- "checksum, register number, digest" (document 02, §1)
abbrev pub extension_asked : ℕ → List ℕ → Request
extension_asked register digest = request_of extend_code (sealed extend_code (bytes4 register ++ digest)) 0 [] false []

abbrev pub disable_asked : Request
disable_asked = request_of disable_code (sealed disable_code []) 0 [] false []

-- "checksum, data size, data" (document 02, §5), and the fresh handle that the host lends
abbrev pub invoke_asked : List ℕ → (fresh : List ℕ) → ℕ → Request
invoke_asked content fresh caller = request_of invoke_code (sealed invoke_code (bytes4 (length content) ++ content)) caller [] false fresh

-- the data of each command
abbrev pub derive_data : List ℕ → ℕ → ℕ → List ℕ → List ℕ
derive_data handle retain type digest = 1 ∷ (handle ++ (number_bytes retain ++ (number_bytes type ++ digest)))

abbrev pub extend_data : List ℕ → List ℕ → List ℕ
extend_data handle digest = 2 ∷ (handle ++ digest)

abbrev pub rotate_data : List ℕ → List ℕ
rotate_data handle = 3 ∷ handle

abbrev pub destroy_data : List ℕ → List ℕ
destroy_data handle = 4 ∷ handle
