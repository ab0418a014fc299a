-- The numbers of the digest's refusals, and an answer as its number and 48 bytes (document 01's digest entry; document 02, request 12). Assumes nothing.
use Rattle.std.specs.Prelude.{ℕ, List, replicate, Result, Ok, Err}
use Rattle.sha384.specs.declared.digest.DigestResult.{DigestResult}
use Rattle.sha384.specs.declared.errors.DigestError.{DigestError}
use Rattle.sha384.specs.declared.errors.DigestError.TheVariants.{TooLong, TotalTooLong, Damaged}

-- an error's one number
abbrev pub error_number : DigestError → ℕ
error_number TooLong = 10
error_number TotalTooLong = 16
error_number Damaged = 27

-- the number of an answer: 0, or the error's
abbrev pub number_of : {A : Type 0} → Result A DigestError → ℕ
number_of (Ok x) = 0
number_of (Err e) = error_number e

-- the bytes of an answer: the digest, or "48 zero bytes"
abbrev pub bytes_of : Result (List ℕ) DigestError → List ℕ
bytes_of (Ok d) = d
bytes_of (Err e) = replicate 48 0

-- an answer as its number and its bytes
abbrev pub numbered : Result (List ℕ) DigestError → DigestResult
numbered r = record { number = number_of r; bytes = bytes_of r }
