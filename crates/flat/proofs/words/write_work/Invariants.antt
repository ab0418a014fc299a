-- `write_work` meets its contract. The invariant: the first k words are the row's. Assumes nothing.
use Prim.Native.Nat.{◌≤◌}
use mathlib.Core.Path.{◌≡◌}
use lib.ListN.{length, take, get_or}
use Rattle.layout.specs.Words.{tab}
use Rattle.flat.specs.Flat.{work_size, row_of}
use Rattle.flat.proofs.words.write_work.Given as goal

abbrev pub invariant-loop-k : goal.invariant-loop-k
invariant-loop-k l =
    (l.k ≤ work_size) × (length l.out ≡ work_size) × (take l.k l.out ≡ tab l.k (λ i. get_or (row_of l.head l.w.register l.w.journey l.w.node l.w.secret l.w.answer l.w.inputs) i 0))
