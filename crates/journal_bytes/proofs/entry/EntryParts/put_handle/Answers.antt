-- The bytes that were put, one after the other.
use native.Mathlib.Omega.{arith}
use Rattle.journal_bytes.specs.Results.{handle_part}
use Rattle.journal_bytes.proofs.Writing.{one_byte, joins}
use Rattle.journal_bytes.proofs.entry.EntryParts.put_handle.Goals as goal

pub returns-clause-out_after : goal.returns-clause-out_after
returns-clause-out_after c =
    let a = c.args.self.now in
    joins (handle_part a.second) c.put_bytes.ensures.out_after (one_byte c.args.out.now c.args.kind (omega arith))
