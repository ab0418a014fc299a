-- The mailbox checksum (document 01, "Mailbox"). Assumes nothing.
use Rattle.std.specs.Prelude.{ℕ, ◌+◌, ◌-◌, ◌%◌, ◌^◌, List, [], ◌∷◌}
use Rattle.layout.specs.Words.{bytes4}

-- the sum of all bytes
abbrev pub sum_of : List ℕ → ℕ
sum_of [] = 0
sum_of (b ∷ bs) = b + sum_of bs

-- "zero minus the sum", modulo 2^32, over the code's bytes and those after the checksum field
unfoldable pub checksum_of : ℕ → List ℕ → ℕ
checksum_of code bytes = (2 ^ 32 - (sum_of (bytes4 code) + sum_of bytes) % 2 ^ 32) % 2 ^ 32
