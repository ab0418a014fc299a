-- The bytes that were put, one after the other.
use native.Mathlib.Omega.{arith}
use mathlib.Core.Path.{ap, ◌∙◌}
use mathlib.Core.List.{◌∷◌, ◌++◌}
use Prim.Native.Nat.{ℕ}
use Rattle.journal_bytes.proofs.Writing.{one_byte, joins}
use Rattle.journal_bytes.proofs.entry.EntryParts.put_boot.Goals as goal

pub returns-clause-out_after : goal.returns-clause-out_after
returns-clause-out_after c =
    let a = c.args.self.now in
    joins a.second c.put_bytes.ensures.out_after (joins a.first c.put_bytes-a.ensures.out_after (one_byte c.args.out.now c.from.result (omega arith)))
    ∙ ap (λ (k : ℕ). k ∷ (a.first ++ a.second)) c.from.ensures
