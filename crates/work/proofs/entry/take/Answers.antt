-- `take` meets its contract: a return for each test, by the laws of Recorded. Assumes nothing.
use native.Mathlib.Omega.{arith}
use Prim.Native.Nat.{ℕ, ◌<◌}
use mathlib.Core.List.{List}
use Rattle.table.specs.declared.Kind.{Kind}
use mathlib.Core.Path.{◌≡◌, refl, sym, ◌∙◌}
use mathlib.Core.Bool.{Bool, true}
use Rattle.layout.proofs.Cases.{told}
use Rattle.table.specs.Table.{number_of, index_ok}
use Rattle.work.specs.Entries.{well_shaped, finished}
use Rattle.work.specs.Parts.{recording, standing, lent_work}
use Rattle.work.specs.declared.lent.Lent.{Lent}
use Rattle.work.specs.Recorded.{entries_of}
use Rattle.work.proofs.Shape.{finished_shaped, shaped_index}
use Rattle.work.proofs.Recorded.{no_stores, entry_early, entry_none, entry_one, finished_recording}
use Rattle.work.proofs.entry.take.Goals as goal

-- whether lent parts are finished is asked of those alone that stand

stands : (l : Lent) → finished (lent_work l) ≡ finished (standing l.kind l.position l.answer_len l.words.node.now)
unfolding finished well_shaped
stands l = refl

-- past the first test the work is finished

done : (kind : Kind) (position answer_len : ℕ) (node inputs : List ℕ) (b : Bool) → b ≡ finished (standing kind position answer_len node) → b ≡ true
    → finished (recording kind position answer_len node inputs) ≡ true
done kind position answer_len node inputs b e h = sym (finished_recording kind position answer_len node inputs) ∙ told e h

-- and so its indices are fine

index : (kind : Kind) (position answer_len : ℕ) (node inputs : List ℕ) → finished (recording kind position answer_len node inputs) ≡ true
    → index_ok kind node ≡ true
index kind position answer_len node inputs d = let w = recording kind position answer_len node inputs in shaped_index w (finished_shaped w d)

pub returns-then-not-finished : goal.returns-then-not-finished
returns-then-not-finished c =
    let a = c.args in
    let e = entry_early (recording a.work.now.kind a.work.now.position a.work.now.answer_len a.work.now.words.node.now a.inputs) a.buffer.now
    (sym (finished_recording a.work.now.kind a.work.now.position a.work.now.answer_len a.work.now.words.node.now a.inputs) ∙ told (c.finished.ensures ∙ stands a.work.now) c.if-not-finished.true) in
    record { value = e.0; buffer_after = e.1 }

pub returns-then-number-eq0 : goal.returns-then-number-eq0
unfolding entries_of
returns-then-number-eq0 c =
    let a = c.args in
    let d = done a.work.now.kind a.work.now.position a.work.now.answer_len a.work.now.words.node.now a.inputs _ (c.finished.ensures ∙ stands a.work.now) c.if-not-finished.false in
    let e = entry_none (recording a.work.now.kind a.work.now.position a.work.now.answer_len a.work.now.words.node.now a.inputs) a.buffer.now d
    (no_stores _ _ _ (index a.work.now.kind a.work.now.position a.work.now.answer_len a.work.now.words.node.now a.inputs d) (told c.number.ensures c.if-number-eq0.true)) in
    record { value = e.0; buffer_after = e.1 }

pub entry_of-requires : goal.entry_of-requires
entry_of-requires c =
    let a = c.args in
    let d = done a.work.now.kind a.work.now.position a.work.now.answer_len a.work.now.words.node.now a.inputs _ (c.finished.ensures ∙ stands a.work.now) c.if-not-finished.false in
    let some : 0 < number_of a.work.now.kind = omega (arith, c.number.ensures) in
    (index a.work.now.kind a.work.now.position a.work.now.answer_len a.work.now.words.node.now a.inputs d, some)

pub returns : goal.returns
unfolding entries_of
returns c =
    let a = c.args in
    let d = done a.work.now.kind a.work.now.position a.work.now.answer_len a.work.now.words.node.now a.inputs _ (c.finished.ensures ∙ stands a.work.now) c.if-not-finished.false in
    let e = entry_one (recording a.work.now.kind a.work.now.position a.work.now.answer_len a.work.now.words.node.now a.inputs) a.buffer.now d _ c.entry_of.ensures in
    record { value = c.write_entry.ensures.value ∙ e.0; buffer_after = c.write_entry.ensures.buffer_after ∙ e.1 }
