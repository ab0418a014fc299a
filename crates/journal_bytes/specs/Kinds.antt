-- The kinds of entries as the code's, and their bytes. Assumes nothing.
use Rattle.std.specs.Prelude.{ℕ, Result, Ok, Err}
use Rattle.std.proofs.Math.Option.{Option, none, some}
use Rattle.layout.specs.declared.refusals.Refusal.{Refusal}
use Rattle.layout.specs.declared.refusals.Refusal.TheVariants.{UnlistedKind}
use Rattle.journal.specs.Entries.{Form, cold_boot_form, update_form, disabling_form, stash_form, extension_form, derive_form, extend_form, rotate_form, destroy_form, form_at}
use Rattle.journal_bytes.specs.declared.entry.EntryKind.{EntryKind}
use Rattle.journal_bytes.specs.declared.entry.EntryKind.TheVariants as kind

abbrev pub form_by : EntryKind → Form
form_by kind.ColdBoot = cold_boot_form
form_by kind.Update = update_form
form_by kind.Disabling = disabling_form
form_by kind.Stash = stash_form
form_by kind.Extension = extension_form
form_by kind.Derive = derive_form
form_by kind.Extend = extend_form
form_by kind.Rotate = rotate_form
form_by kind.Destroy = destroy_form

abbrev pub kind_by : Form → EntryKind
kind_by cold_boot_form = kind.ColdBoot
kind_by update_form = kind.Update
kind_by disabling_form = kind.Disabling
kind_by stash_form = kind.Stash
kind_by extension_form = kind.Extension
kind_by derive_form = kind.Derive
kind_by extend_form = kind.Extend
kind_by rotate_form = kind.Rotate
kind_by destroy_form = kind.Destroy

abbrev pub kind_told : Option Form → Result EntryKind Refusal
kind_told none = Err UnlistedKind
kind_told (some f) = Ok (kind_by f)

-- "20 kind not listed"
unfoldable pub kind_at : ℕ → Result EntryKind Refusal
kind_at k = kind_told (form_at k)
