-- A tree command's data within the bytes of its entry (document 02, §5): "the data after its 1 to 4, the fresh handle if any, the caller". Assumes nothing.
use Rattle.std.specs.Prelude.{ℕ, ◌-◌, List, ◌∷◌, length, get_or, take, drop}
use Rattle.journal.specs.Entries.{Entry, entry_bytes}
use Rattle.journal_bytes.specs.declared.entry.EntryParts.{EntryParts}
use Rattle.journal_bytes.specs.Results.{parts_with}

-- an entry whose caller is one byte
abbrev pub without_caller : EntryParts → EntryParts
without_caller e = parts_with e.kind e.value e.svn e.retain 0 e.first e.second

-- the command's byte for the kind's, which is 5 more, and what follows but for some last bytes
unfoldable pub data_within : (tail : ℕ) → Entry → List ℕ
data_within tail e = let l = entry_bytes e in (get_or l 0 0 - 5) ∷ drop 1 (take (length l - tail) l)
