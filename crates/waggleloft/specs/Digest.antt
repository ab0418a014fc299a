-- The digest's C form (document 01, "Numbers handed back"). Assumes nothing.
use Rattle.std.specs.Prelude.{ℕ, cond, List, ◌++◌, ltb, eqb, length, drop}
use Rattle.sha384.specs.Sha384.{sha384}
use Rattle.sha384.specs.Entries.{longest}

-- the C form's number for a message m and a buffer of n bytes: 10 too long, then 8 too short a buffer, else 0
unfoldable pub digest_number : List ℕ → ℕ → ℕ
digest_number m n = cond (ltb longest (length m)) 10 (cond (ltb n 48) 8 0)

-- what the buffer holds afterwards: the digest in front, "or nothing when refused"
unfoldable pub digest_buffer : List ℕ → List ℕ → List ℕ
digest_buffer m buffer = cond (eqb (digest_number m (length buffer)) 0) (sha384 m ++ drop 48 buffer) buffer
