-- `entry_of` meets its contract: one case for each kind of work. Nothing to store is ruled out; a register that may be extended fits. Assumes nothing.
use native.Mathlib.Omega.{arith}
use Prim.Native.Nat.{◌<◌}
use mathlib.Core.Path.{◌≡◌}
use mathlib.Core.Bool.{true}
use Rattle.layout.specs.Sizes.{extendable}
use Rattle.layout.proofs.Extendable.{extendable_to}
use Rattle.table.specs.Table.{number_of, index_ok}
use Rattle.table.specs.declared.Kind.TheVariants.{Nothing}
use Rattle.journal_bytes.specs.Results.{entry_in}
use Rattle.work.specs.Recorded.{entries_for}
use Rattle.work.proofs.entry.entry_of.Goals as goal

pub overflow_cast-result : goal.overflow_cast-result
unfolding index_ok
overflow_cast-result c =
    let h : extendable c.in-Extension.register ≡ true = rw c.in-Extension.is at c.requires.0 in
    omega (arith, extendable_to c.in-Extension.register h)

pub returns-in-Nothing : goal.returns-in-Nothing
unfolding number_of
returns-in-Nothing c =
    let h : 0 < number_of Nothing = rw c.in-Nothing.is at c.requires.1 in
    absurd (omega arith)

pub returns-in-Disabling : goal.returns-in-Disabling
unfolding entries_for entry_in
returns-in-Disabling c = rw (c.in-Disabling.is, c.told-told.ensures)

pub returns-in-Stash : goal.returns-in-Stash
unfolding entries_for entry_in
returns-in-Stash c = rw (c.in-Stash.is, c.told-told.ensures, c.word.ensures, c.word-caller.ensures, c.word-value.ensures)

pub returns-in-Update : goal.returns-in-Update
unfolding entries_for entry_in
returns-in-Update c = rw (c.in-Update.is, c.told-told.ensures)

pub returns-in-ColdBoot : goal.returns-in-ColdBoot
unfolding entries_for entry_in
returns-in-ColdBoot c = rw (c.in-ColdBoot.is, c.told-told.ensures)

pub returns-in-Extension : goal.returns-in-Extension
unfolding entries_for entry_in
returns-in-Extension c = rw (c.in-Extension.is, c.told-told.ensures)

pub returns-in-Derive : goal.returns-in-Derive
unfolding entries_for entry_in
returns-in-Derive c = rw (c.in-Derive.is, c.told-told.ensures, c.word-caller.ensures, c.word-value.ensures)

pub returns-in-Replace : goal.returns-in-Replace
unfolding entries_for entry_in
returns-in-Replace c = rw (c.in-Replace.is, c.told-told.ensures, c.word-caller.ensures, c.word-value.ensures)

pub returns-in-Extend : goal.returns-in-Extend
unfolding entries_for entry_in
returns-in-Extend c = rw (c.in-Extend.is, c.told-told.ensures, c.word-caller.ensures)

pub returns-in-Rotate : goal.returns-in-Rotate
unfolding entries_for entry_in
returns-in-Rotate c = rw (c.in-Rotate.is, c.told-told.ensures, c.word-caller.ensures)

pub returns-in-Destroy : goal.returns-in-Destroy
unfolding entries_for entry_in
returns-in-Destroy c = rw (c.in-Destroy.is, c.told-told.ensures, c.word-caller.ensures)
