-- By the kind: a boot's digests, and a disabling, which has no field.
use mathlib.Core.Path.{◌≡◌, refl, sym, ap, ◌∙◌}
use mathlib.Core.List.{List}
use Prim.Native.Nat.{ℕ}
use Rattle.layout.specs.Words.{zeros}
use Rattle.journal.specs.Read.{got}
use Rattle.journal.specs.Fields.{read_fields}
use Rattle.journal_bytes.specs.declared.entry.EntryKind.{EntryKind}
use Rattle.journal_bytes.specs.declared.entry.EntryKind.TheVariants.{ColdBoot, Update, Disabling}
use Rattle.journal_bytes.specs.Kinds.{form_by}
use Rattle.journal_bytes.specs.Fields.{boot_read}
use Rattle.journal_bytes.specs.declared.entry.EntryParts.{EntryParts}
use Rattle.journal_bytes.specs.Results.{bare, parts_of, parts_read}
use Rattle.journal_bytes.proofs.entry.EntryParts.take.Goals as goal

cold_boot : (kind : EntryKind) (l : List ℕ) → kind ≡ ColdBoot → boot_read kind l ≡ parts_read (form_by kind) l
unfolding boot_read parts_of parts_read
cold_boot kind l h = rw h refl

update : (kind : EntryKind) (l : List ℕ) → kind ≡ Update → boot_read kind l ≡ parts_read (form_by kind) l
unfolding boot_read parts_of parts_read
update kind l h = rw h refl

pub returns-in-ColdBoot : goal.returns-in-ColdBoot
returns-in-ColdBoot c = c.take_boot.ensures ∙ cold_boot c.args.self.now.kind c.args.s.now c.in-ColdBoot.is

pub returns-in-Update : goal.returns-in-Update
returns-in-Update c = c.take_boot-in-Update.ensures ∙ update c.args.self.now.kind c.args.s.now c.in-Update.is

none : (p : EntryParts) (l : List ℕ) → p ≡ bare p.kind → p.kind ≡ Disabling → got p l ≡ parts_read (form_by p.kind) l
unfolding parts_of parts_read read_fields zeros
none p l b h = ap (λ (x : EntryParts). got x l) (b ∙ ap bare h) ∙ sym (ap (λ (k : EntryKind). parts_read (form_by k) l) h)

pub returns-in-Disabling : goal.returns-in-Disabling
returns-in-Disabling c = none c.args.self.now c.args.s.now c.requires c.in-Disabling.is
