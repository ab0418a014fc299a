-- FIPS 180-4, sections 5.1.2, 6.4 and 6.5: the padding, and the digest. A message is a list of bytes. Assumes nothing.
use Rattle.std.specs.Prelude.{ℕ, zero, suc, ◌-◌, ◌*◌, ◌/◌, ◌%◌, ◌^◌, List, [], ◌∷◌, ◌++◌, length, replicate}
use Rattle.sha_block.specs.Blocks.{hashed}
use Rattle.sha_block.specs.declared.state.State.{State}
use Rattle.sha384.specs.Constants.{constants, initial_of}

-- 3.1: x in n bytes, the highest first
abbrev pub bytes_of : ℕ → ℕ → List ℕ
bytes_of zero x = []
bytes_of (suc n) x = (x / 256 ^ n) % 256 ∷ bytes_of n x

-- 5.1.2: what is appended to a message of n bytes: a bit 1 and bits 0 up to byte 112 of a block, and the message's length in bits in 16 bytes
unfoldable pub padding : ℕ → List ℕ
padding n = 128 ∷ (replicate ((239 - n % 128) % 128) 0 ++ bytes_of 16 (n * 8))

unfoldable pub padded : List ℕ → List ℕ
padded m = m ++ padding (length m)

-- 6.4: the hash value after all blocks of the padded message
unfoldable pub hash_of : List ℕ → State
hash_of m = hashed constants initial_of (padded m) (length (padded m) / 128)

-- 6.5: the first six words, as bytes
unfoldable pub first_six : State → List ℕ
first_six h = bytes_of 8 h.a ++ (bytes_of 8 h.b ++ (bytes_of 8 h.c ++ (bytes_of 8 h.d ++ (bytes_of 8 h.e ++ bytes_of 8 h.f))))

-- SHA-384
unfoldable pub sha384 : List ℕ → List ℕ
sha384 m = first_six (hash_of m)
