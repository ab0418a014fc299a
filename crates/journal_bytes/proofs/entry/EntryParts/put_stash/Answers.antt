-- The bytes that were put, one after the other.
use native.Mathlib.Omega.{arith}
use mathlib.Core.Path.{sym, ◌∙◌}
use Rattle.journal.specs.Numbers.{number_bytes}
use Rattle.journal.proofs.Entries.{laid}
use Rattle.journal_bytes.proofs.Writing.{one_byte, joins}
use Rattle.journal_bytes.proofs.entry.EntryParts.put_stash.Goals as goal

pub returns-clause-out_after : goal.returns-clause-out_after
returns-clause-out_after c =
    let a = c.args.self.now in
    joins (number_bytes a.caller) c.put_number.ensures.out_after
    (joins (number_bytes a.svn) c.put_number-c.ensures.out_after
    (joins a.first c.put_bytes-b.ensures.out_after (joins (number_bytes a.value) c.put_number-a.ensures.out_after (one_byte c.args.out.now 4 (omega arith)))))
    ∙ sym (laid.stash a.value a.first a.svn a.caller)
