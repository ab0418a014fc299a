-- The bytes that were put, one after the other.
use mathlib.Core.Path.{refl, sym, ◌∙◌}
use Rattle.journal.specs.Numbers.{number_bytes}
use Rattle.journal.proofs.Entries.{laid}
use Rattle.journal_bytes.specs.Results.{handle_part, fresh_part}
use Rattle.journal_bytes.proofs.Writing.{joins}
use Rattle.journal_bytes.proofs.entry.EntryParts.put_rotate.Goals as goal

pub returns-clause-out_after : goal.returns-clause-out_after
returns-clause-out_after c =
    let a = c.args.self.now in
    joins (number_bytes a.caller) c.put_fresh.ensures.out_after (joins (fresh_part a.second) refl c.put_handle-a.ensures.out_after)
    ∙ sym (laid.rotate (handle_part a.second) (fresh_part a.second) a.caller)
