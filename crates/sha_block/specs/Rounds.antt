-- FIPS 180-4, section 6.4.2, steps 3 and 4: the eight working variables, a round, and the sum that ends a block. Assumes nothing.
use Rattle.std.specs.Prelude.{ℕ, zero, suc, ◌+◌, ◌%◌, ◌^◌}
use Rattle.sha_block.specs.Words.{Ch, Maj, Sigma0, Sigma1}
use Rattle.sha_block.specs.declared.state.State.{State}

-- T_1 = h + Σ1(e) + Ch(e, f, g) + K_t + W_t
unfoldable pub T1 : (e f g h k w : ℕ) → ℕ
T1 e f g h k w = (h + Sigma1 e + Ch e f g + k + w) % 2 ^ 64

-- T_2 = Σ0(a) + Maj(a, b, c)
unfoldable pub T2 : (a b c : ℕ) → ℕ
T2 a b c = (Sigma0 a + Maj a b c) % 2 ^ 64

-- the working variables, from a to h
abbrev pub variables : (a b c d e f g h : ℕ) → State
variables a b c d e f g h = record { a = a; b = b; c = c; d = d; e = e; f = f; g = g; h = h }

-- step 3: one round, at the constant k and the schedule's word w
unfoldable pub round_of : State → ℕ → ℕ → State
round_of s k w =
    let t = T1 s.e s.f s.g s.h k w in
    variables ((t + T2 s.a s.b s.c) % 2 ^ 64) s.a s.b s.c ((s.d + t) % 2 ^ 64) s.e s.f s.g

-- step 3: n rounds, round t at the constant k t and the word w t
abbrev pub turns : (ℕ → ℕ) → (ℕ → ℕ) → ℕ → State → State
turns k w zero s = s
turns k w (suc t) s = round_of (turns k w t s) (k t) (w t)

-- step 4: the hash value before the block, and the working variables after its rounds
unfoldable pub next_hash : State → State → State
next_hash x y =
    variables ((x.a + y.a) % 2 ^ 64) ((x.b + y.b) % 2 ^ 64) ((x.c + y.c) % 2 ^ 64) ((x.d + y.d) % 2 ^ 64)
    ((x.e + y.e) % 2 ^ 64) ((x.f + y.f) % 2 ^ 64) ((x.g + y.g) % 2 ^ 64) ((x.h + y.h) % 2 ^ 64)
