-- Wherever the input is cut into pieces, the inspection tells what the program is defined to write. Assumes nothing.
use Rattle.std.specs.Prelude.{◌≡◌, ℕ}
use mathlib.Core.List.{List, foldl}
use Rattle.layout.specs.Sizes.{image_words}
use Rattle.layout.specs.Words.{zeros, flat}
use Rattle.journal.specs.Statements.{Bytes}
use Rattle.replaying.specs.Report.{image_bytes, output}
use Rattle.inspection.specs.Stages.{Stage, stage_of, begun, fed_with, told}

-- before the first piece
abbrev pub at_first : Stage
at_first = stage_of begun (zeros image_bytes) (zeros image_words)

abbrev pub Pieces : Type 0
Pieces = (pieces : List (List ℕ)) → Bytes (flat pieces) → told (foldl fed_with at_first pieces) ≡ output (flat pieces)
