-- The invariant: the verdict's byte, and behind it the first k bytes of the registers.
use Prim.Native.Nat.{ℕ, ◌+◌, ◌*◌, ◌/◌, ◌%◌, ◌≤◌}
use mathlib.Core.Path.{◌≡◌}
use mathlib.Core.List.{List, ◌∷◌}
use lib.ListN.{length, take, get_or}
use Rattle.layout.specs.Words.{tab, byte_of, part}
use Rattle.replaying.specs.Report.{compared_at}
use Rattle.inspection.specs.Stages.{told_words, verdict_number}
use Rattle.inspection.proofs.finish.with_registers.Given as goal

abbrev pub byte_at : List ℕ → ℕ → ℕ
byte_at scratch k = byte_of (get_or (part told_words scratch compared_at) (k / 4) 0) (k % 4)

abbrev pub invariant-loop-k : goal.invariant-loop-k
invariant-loop-k l = (l.k ≤ 4 * told_words) × (length l.out ≡ 1 + 4 * told_words) × (take (1 + l.k) l.out ≡ verdict_number l.fn.verdict ∷ tab l.k (byte_at l.scratch))
