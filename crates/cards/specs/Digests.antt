-- What the digest entry and a finish of the running digest answer, as document 01 and document 02, request 12, tell it: a number and 48 bytes for each
-- case of their `Result`, those that `numbered` (sha384/Errors) has in one. Nothing rests on it. Assumes nothing.
use Rattle.std.specs.Prelude.{ℕ, ◌≡◌, ◌<◌, ◌≤◌, true, false, List, length, replicate, Result}
use Rattle.sha384.specs.Sha384.{sha384}
use Rattle.sha384.specs.Entries.{longest, digest_of, concluded}
use Rattle.sha384.specs.Errors.{number_of, bytes_of}
use Rattle.sha384.specs.declared.errors.DigestError.{DigestError}
use Rattle.running.specs.declared.Running.{Running}
use Rattle.running.specs.Running.{agrees, finish_result}

-- an answer with this number and these bytes
pub record Answers (r : Result (List ℕ) DigestError) (number : ℕ) (bytes : List ℕ) : Type 0 where
  pub number_is : number_of r ≡ number
  pub bytes_are : bytes_of r ≡ bytes

pub record Digests : Type 0 where
  -- "Digest of any byte string from 0 to 65,535 bytes"; a longer one, 10
  pub digest : (m : List ℕ) → length m ≤ longest → Answers (digest_of m) 0 (sha384 m)
  pub too_long : (m : List ℕ) → longest < length m → Answers (digest_of m) 10 (replicate 48 0)
  -- a finish; 27 where the counts disagree or the total is too large
  pub finish : (st : Running) → agrees st ≡ true → Answers (finish_result st) 0 (concluded st.hash st.buffer st.total)
  pub damaged : (st : Running) → agrees st ≡ false → Answers (finish_result st) 27 (replicate 48 0)
