-- Pieces fed one after another: one more, and what is told of them. Assumes nothing.
use Prim.Native.Nat.{ℕ, ◌≤◌}
use mathlib.Core.Path.{◌≡◌, sym, ap, ◌∙◌}
use mathlib.Core.List.{List, [], ◌∷◌, ◌++◌, foldl, foldl-append}
use lib.ListN.{length}
use Rattle.inspection.specs.declared.reader.Reader.{Reader}
use Rattle.layout.specs.declared.bytes.Bytes.{Bytes}
use Rattle.inspection.specs.Stages.{told_max, Stage, stage_of, fed_with, told, told_in}
use Rattle.inspection.specs.Pieces.{at_first}
use Rattle.inspection.proofs.Telling.{told_within}
use Rattle.replay.specs.Fed.{Fed, TellsPieces}

pub fed_on : (x : Stage) (piece : List ℕ) (r : Reader) (saved scratch : List ℕ) → Fed x
    → r ≡ (fed_with x piece).reader → saved ≡ (fed_with x piece).saved → scratch ≡ (fed_with x piece).scratch → Fed (stage_of r saved scratch)
fed_on x piece r saved scratch f p q s =
    let pieces = f.0 in (
      pieces ++ (piece ∷ []),
      (λ i. stage_of (p i) (q i) (s i)) ∙ ap (λ (y : Stage). fed_with y piece) f.1 ∙ sym (foldl-append fed_with at_first pieces (piece ∷ [])),
    )

pub tells : (x : Stage) (t : Bytes told_max) → t ≡ told_in (told x) → Fed x → TellsPieces t
tells x t e f = (f.0, e ∙ ap (λ (y : Stage). told_in (told y)) f.1)

pub within : (t : Bytes told_max) → TellsPieces t → t.len ≤ length t.bytes
within t e = told_within t (told (foldl fed_with at_first e.0)) e.1
