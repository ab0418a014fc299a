-- FIPS 180-4, section 6.4.2, step 1: the message schedule W_0, W_1, .. of a block. Assumes nothing.
use Rattle.std.specs.Prelude.{ℕ, zero, suc, ◌+◌, ◌-◌, ◌%◌, ◌^◌, List, [], ◌∷◌, ◌++◌, length, slice_index, slice_set}
use Rattle.sha_block.specs.Words.{sigma0, sigma1}

-- the word at an index of a list
abbrev pub at : List ℕ → ℕ → ℕ
at ws t = slice_index ws t

-- W_t = σ1(W_(t-2)) + W_(t-7) + σ0(W_(t-15)) + W_(t-16)
unfoldable pub next_of : (w2 w7 w15 w16 : ℕ) → ℕ
next_of w2 w7 w15 w16 = (sigma1 w2 + w7 + sigma0 w15 + w16) % 2 ^ 64

-- W_t, where ws is W_0 to W_(t-1)
unfoldable pub next_word : List ℕ → ℕ
next_word ws = next_of (at ws (length ws - 2)) (at ws (length ws - 7)) (at ws (length ws - 15)) (at ws (length ws - 16))

-- the block's sixteen words m, which are W_0 to W_15, and the n words after them
abbrev pub schedule : ℕ → List ℕ → List ℕ
schedule zero m = m
schedule (suc n) m = schedule n m ++ (next_word (schedule n m) ∷ [])

-- The schedule in a ring of sixteen words, W_j in place j mod 16. Where w holds the sixteen words before W_(t+i), t a multiple of 16, this is W_(t+i), and
-- place i takes it up.
unfoldable pub ring_next : List ℕ → ℕ → ℕ
ring_next w i = next_of (at w ((i + 14) % 16)) (at w ((i + 9) % 16)) (at w ((i + 1) % 16)) (at w i)

-- the ring after its places 0 to n - 1 have taken up their next words
abbrev pub ring_after : ℕ → List ℕ → List ℕ
ring_after zero w = w
ring_after (suc n) w = slice_set (ring_after n w) n (ring_next (ring_after n w) n)

-- the word that the place j takes up after those before it
abbrev pub ring_word : List ℕ → ℕ → ℕ
ring_word w j = ring_next (ring_after j w) j
