-- What document 01's digest entry answers, "x extended by d" and by each of a list, and the digest from a hash value on. Assumes nothing.
use Rattle.std.specs.Prelude.{ℕ, ◌/◌, ◌%◌, cond, leb, length, take, Result, Ok, Err}
use mathlib.Core.List.{List, ◌++◌, foldl}
use Rattle.sha_block.specs.Blocks.{hashed, hash_value}
use Rattle.sha384.specs.Constants.{constants}
use Rattle.sha384.specs.Sha384.{padding, first_six, sha384}
use Rattle.sha384.specs.declared.errors.DigestError.{DigestError}
use Rattle.sha384.specs.declared.errors.DigestError.TheVariants.{TooLong}

-- "Digest of any byte string from 0 to 65,535 bytes"
abbrev pub longest : ℕ
longest = 65535

-- the digest entry: the digest, or a message that is too long
unfoldable pub digest_of : List ℕ → Result (List ℕ) DigestError
digest_of m = cond (leb (length m) longest) (Ok (sha384 m)) (Err TooLong)

-- "x extended by d" is SHA-384 of the 48 bytes x followed by the 48 bytes d
unfoldable pub extended : List ℕ → List ℕ → List ℕ
extended x d = sha384 (x ++ d)

-- x extended by each of a list, the first of the list first
unfoldable pub extended_by_each : List ℕ → List (List ℕ) → List ℕ
extended_by_each x ds = foldl extended x ds

-- what ends the padded message of n bytes: the bytes past its whole blocks, which are the first of `last`, and the padding
abbrev pub end_of : List ℕ → ℕ → List ℕ
end_of last n = take (n % 128) last ++ padding n

-- the digest of a message of n bytes whose whole blocks have made the hash value of the words h
unfoldable pub concluded : List ℕ → List ℕ → ℕ → List ℕ
concluded h last n = first_six (hashed constants (hash_value h) (end_of last n) (length (end_of last n) / 128))
