-- FIPS 180-4, sections 5.2.2 and 6.4.2: the words of a block, and what blocks make of a hash value. `k` is the list of the round constants. Assumes nothing.
use Rattle.std.specs.Prelude.{ℕ, zero, suc, ◌+◌, ◌*◌, List, [], ◌∷◌, ◌++◌, slice_index}
use Rattle.sha_block.specs.Rounds.{turns, variables, next_hash}
use Rattle.sha_block.specs.Schedule.{at, schedule}
use Rattle.sha_block.specs.declared.state.State.{State}

-- 3.1: eight bytes as a word, the first byte highest
unfoldable pub word_of : (b0 b1 b2 b3 b4 b5 b6 b7 : ℕ) → ℕ
word_of b0 b1 b2 b3 b4 b5 b6 b7 = ((((((b0 * 256 + b1) * 256 + b2) * 256 + b3) * 256 + b4) * 256 + b5) * 256 + b6) * 256 + b7

-- the word that starts at the byte i of s
unfoldable pub word_at : List ℕ → ℕ → ℕ
word_at s i = word_of (slice_index s i) (slice_index s (i + 1)) (slice_index s (i + 2)) (slice_index s (i + 3)) (slice_index s (i + 4)) (slice_index s (i + 5)) (slice_index s (i + 6)) (slice_index s (i + 7))

-- 5.2.2: n words from the byte i of s on
abbrev pub block_words : List ℕ → ℕ → ℕ → List ℕ
block_words s i zero = []
block_words s i (suc n) = block_words s i n ++ (word_at s (i + n * 8) ∷ [])

-- 6.4.2: the hash value after one block of sixteen words m: eighty rounds over the schedule, and the sum with the value before
unfoldable pub block_of : List ℕ → State → List ℕ → State
block_of k h m = next_hash h (turns (at k) (at (schedule 64 m)) 80 h)

-- 6.4.2: the hash value after the first n blocks, of 128 bytes each, of p
abbrev pub hashed : List ℕ → State → List ℕ → ℕ → State
hashed k h p zero = h
hashed k h p (suc n) = block_of k (hashed k h p n) (block_words p (n * 128) 16)

-- a hash value as the words H_0 to H_7 that a caller lends
abbrev pub hash_words : State → List ℕ
hash_words h = h.a ∷ h.b ∷ h.c ∷ h.d ∷ h.e ∷ h.f ∷ h.g ∷ h.h ∷ []

-- the hash value of such words
abbrev pub hash_value : List ℕ → State
hash_value h = variables (at h 0) (at h 1) (at h 2) (at h 3) (at h 4) (at h 5) (at h 6) (at h 7)

-- `hashed` over lent words
abbrev pub absorbed : List ℕ → List ℕ → List ℕ → ℕ → List ℕ
absorbed k h p zero = h
absorbed k h p (suc n) = hash_words (block_of k (hash_value (absorbed k h p n)) (block_words p (n * 128) 16))
