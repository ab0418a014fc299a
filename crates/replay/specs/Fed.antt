-- Pieces fed one after another from the first stage on, and what is told of them. Assumes nothing.
use Rattle.std.specs.Prelude.{ℕ, ◌≡◌}
use mathlib.Core.List.{List, foldl}
use Rattle.layout.specs.declared.bytes.Bytes.{Bytes}
use Rattle.inspection.specs.Stages.{told_max, Stage, fed_with, told, told_in}
use Rattle.inspection.specs.Pieces.{at_first}

-- the stage after some pieces
abbrev pub Fed : Stage → Type 0
Fed x = (pieces : List (List ℕ)) × (x ≡ foldl fed_with at_first pieces)

-- what the inspection tells of some pieces
abbrev pub TellsPieces : Bytes told_max → Type 0
TellsPieces t = (pieces : List (List ℕ)) × (t ≡ told_in (told (foldl fed_with at_first pieces)))
