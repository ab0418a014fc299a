-- What is told of an input, and the line that is printed of it. Assumes nothing.
use Rattle.std.specs.Prelude.{ℕ, ◌≡◌, ◌≤◌, List, [], ◌∷◌, ◌++◌, length, Ok}
use Rattle.sha384.specs.Sha384.{sha384}
use Rattle.running.specs.declared.Running.{Running}
use Rattle.running.specs.Running.{longest_total, finish_result}
use Rattle.sha384sum.specs.Hex.{hex_of}

-- the state's digest is that of some bytes, which are not too many
abbrev pub Digests : List ℕ → Running → Type 0
Digests xs st = (length xs ≤ longest_total) × (finish_result st ≡ Ok (sha384 xs))

-- as `sha384sum` prints a digest of standard input: its digits, "  -" and a line's end
abbrev pub line_of : List ℕ → List ℕ
line_of digest = hex_of digest ++ (32 ∷ 32 ∷ 45 ∷ 10 ∷ [])
