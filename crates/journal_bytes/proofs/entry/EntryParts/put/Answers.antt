-- By the kind.
use native.Mathlib.Omega.{arith}
use mathlib.Core.Path.{◌≡◌, refl, sym, ◌∙◌}
use mathlib.Core.List.{◌∷◌, ◌++◌}
use Rattle.journal.specs.Entries.{kind_byte, entry_bytes}
use Rattle.journal.proofs.Entries.{laid}
use Rattle.journal_bytes.specs.Kinds.{form_by}
use Rattle.journal_bytes.specs.Results.{entry_in}
use Rattle.journal_bytes.specs.declared.entry.EntryKind.TheVariants.{ColdBoot, Update}
use Rattle.journal_bytes.specs.declared.entry.EntryParts.{EntryParts}
use Rattle.journal_bytes.proofs.Writing.{one_byte}
use Rattle.journal_bytes.proofs.entry.EntryParts.put.Goals as goal

cold_boot : (p : EntryParts) → p.kind ≡ ColdBoot → kind_byte (form_by p.kind) ∷ (p.first ++ p.second) ≡ entry_bytes (entry_in p)
unfolding entry_in
cold_boot p h = rw h (sym (laid.cold_boot p.first p.second))

update : (p : EntryParts) → p.kind ≡ Update → kind_byte (form_by p.kind) ∷ (p.first ++ p.second) ≡ entry_bytes (entry_in p)
unfolding entry_in
update p h = rw h (sym (laid.update p.first p.second))

pub returns-in-ColdBoot-clause-out_after : goal.returns-in-ColdBoot-clause-out_after
returns-in-ColdBoot-clause-out_after c = c.put_boot.ensures.out_after ∙ cold_boot c.args.self.now c.in-ColdBoot.is

pub returns-in-Update-clause-out_after : goal.returns-in-Update-clause-out_after
returns-in-Update-clause-out_after c = c.put_boot-in-Update.ensures.out_after ∙ update c.args.self.now c.in-Update.is

pub returns-in-Disabling-clause-out_after : goal.returns-in-Disabling-clause-out_after
unfolding entry_in
returns-in-Disabling-clause-out_after c = one_byte c.args.out.now 3 (omega arith) ∙ rw c.in-Disabling.is (sym laid.disabling)

pub returns-in-Stash-clause-out_after : goal.returns-in-Stash-clause-out_after
unfolding entry_in
returns-in-Stash-clause-out_after c = c.put_stash.ensures.out_after ∙ rw c.in-Stash.is refl

pub returns-in-Extension-clause-out_after : goal.returns-in-Extension-clause-out_after
unfolding entry_in
returns-in-Extension-clause-out_after c = c.put_extension.ensures.out_after ∙ rw c.in-Extension.is refl

pub returns-in-Derive-clause-out_after : goal.returns-in-Derive-clause-out_after
unfolding entry_in
returns-in-Derive-clause-out_after c = c.put_derive.ensures.out_after ∙ rw c.in-Derive.is refl

pub returns-in-Extend-clause-out_after : goal.returns-in-Extend-clause-out_after
unfolding entry_in
returns-in-Extend-clause-out_after c = c.put_extend.ensures.out_after ∙ rw c.in-Extend.is refl

pub returns-in-Rotate-clause-out_after : goal.returns-in-Rotate-clause-out_after
unfolding entry_in
returns-in-Rotate-clause-out_after c = c.put_rotate.ensures.out_after ∙ rw c.in-Rotate.is refl

pub returns-in-Destroy-clause-out_after : goal.returns-in-Destroy-clause-out_after
unfolding entry_in
returns-in-Destroy-clause-out_after c = c.put_destroy.ensures.out_after ∙ rw c.in-Destroy.is refl
