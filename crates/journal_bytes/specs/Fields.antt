-- What the functions that read parts of an entry answer: they are private, and Results rests on none of it. Assumes nothing.
use Rattle.std.specs.Prelude.{ℕ, List, [], ◌∷◌}
use Rattle.journal.specs.Read.{Read, map_read}
use Rattle.journal.specs.Fields.{read_fields}
use Rattle.journal.specs.Entries.{digest}
use Rattle.journal_bytes.specs.declared.entry.EntryKind.{EntryKind}
use Rattle.journal_bytes.specs.declared.entry.EntryParts.{EntryParts}
use Rattle.journal_bytes.specs.Results.{parts_with}

-- a boot's two digests, of either kind
unfoldable pub boot_read : EntryKind → List ℕ → Read EntryParts
boot_read kind l = map_read (λ vs. parts_with kind 0 0 0 0 vs.0 vs.1.0) (read_fields (digest ∷ digest ∷ []) l)
