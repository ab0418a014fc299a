-- How much is lent and how much is read. Assumes nothing.
use Rattle.std.specs.Prelude.{ℕ}

-- the most words that are lent, and the most bytes of the input that are used
abbrev pub memory_words : ℕ
memory_words = 4096

abbrev pub input_bytes : ℕ
input_bytes = 1048576
