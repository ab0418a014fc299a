-- The journal entry of a task (document 02, §3): its inputs, and "the secret is never written". Assumes nothing.
use Rattle.std.specs.Prelude.{List, [], ◌∷◌, ◌++◌, ℕ}
use Rattle.journal.specs.Entries.{Entry, disabling}
use Rattle.journal.specs.Entries as entry
use Rattle.opening.specs.Orders.{NodeCommand, derive, extend, rotate, destroy, malformed}
use Rattle.opening.specs.Tasks.{Task, no_stores, kept_boot, disable_command, disabling_boot, stash, update, cold_boot, extension, invoke}

-- of a tree command (document 02, §5): its data, the fresh handle if any, the caller
abbrev pub entry_ordered : NodeCommand → List ℕ → ℕ → List Entry
entry_ordered (derive handle retain type digest) fresh caller = entry.derive handle retain type digest fresh caller ∷ []
entry_ordered (extend handle digest) fresh caller = entry.extend handle digest caller ∷ []
entry_ordered (rotate handle) fresh caller = entry.rotate handle fresh caller ∷ []
entry_ordered (destroy handle) fresh caller = entry.destroy handle caller ∷ []
entry_ordered malformed fresh caller = []

-- "no stores, no bytes"; a disabling has one entry, whether a command or a boot began it
abbrev pub entry_for : Task → List Entry
entry_for no_stores = []
entry_for kept_boot = []
entry_for disable_command = disabling ∷ []
entry_for disabling_boot = disabling ∷ []
entry_for (stash x) = entry.stash x.type x.digest x.svn x.caller ∷ []
entry_for (update x) = entry.update x.runtime x.manifest ∷ []
entry_for (cold_boot x) = entry.cold_boot x.runtime x.manifest ∷ []
entry_for (extension x) = entry.extension x.register x.digest ∷ []
entry_for (invoke o) = entry_ordered o.command o.fresh o.caller

-- those of a list of tasks
abbrev pub entries_for : List Task → List Entry
entries_for [] = []
entries_for (t ∷ ts) = entry_for t ++ entries_for ts
