-- The bytes that were put, one after the other.
use mathlib.Core.Path.{sym, ◌∙◌}
use Rattle.journal.specs.Numbers.{number_bytes}
use Rattle.journal.proofs.Entries.{laid}
use Rattle.journal_bytes.specs.Results.{handle_part}
use Rattle.journal_bytes.proofs.Writing.{joins}
use Rattle.journal_bytes.proofs.entry.EntryParts.put_destroy.Goals as goal

pub returns-clause-out_after : goal.returns-clause-out_after
returns-clause-out_after c =
    let a = c.args.self.now in
    joins (number_bytes a.caller) c.put_number.ensures.out_after c.put_handle-a.ensures.out_after
    ∙ sym (laid.destroy (handle_part a.second) a.caller)
