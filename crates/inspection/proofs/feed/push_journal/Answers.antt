-- The tests in the order of the definition, and what reading the entry's bytes so far tells.
use Prim.Native.Nat.{ℕ, ◌+◌, ◌≤◌, ◌<◌}
use mathlib.Core.Path.{◌≡◌, refl, sym, ap, ap₂, ◌∙◌}
use mathlib.Core.Bool.{true, false}
use native.Mathlib.Omega.{arith}
use borrow.Author.Tests.{le-leb, lt-leb}
use mathlib.Core.List.{List}
use lib.ListN.{get_or, set}
use lib.Seq.{set-set, set-get_or}
use Rattle.std.specs.Prelude.{Option}
use Rattle.std.proofs.Common.{Some, Result, Ok, Err}
use Rattle.layout.specs.declared.refusals.Refusal.{Refusal}
use Rattle.std.specs.Option.{is_some}
use Rattle.layout.specs.Numbers.{refusal_number}
use Rattle.layout.specs.Refusals.{cut_entry}
use Rattle.journal.specs.Entries.{read_entry, longest}
use Rattle.replaying.specs.Report.{journal_max}
use Rattle.inspection.specs.declared.reader.Reader.{Reader}
use Rattle.inspection.specs.Stages.{Stage, stage_of, reader_of, counting_of, counted_on, so_far, journal_byte}
use Rattle.inspection.proofs.Reading.{was_counted, was_cut, was_refused, none_of, reads_on}
use Rattle.inspection.proofs.feed.push_journal.Goals as goal

module _ (x : Stage) (b : ℕ) where
  already : is_some x.reader.refusal ≡ true → x ≡ journal_byte x b
  unfolding journal_byte
  already n = rw n refl

  too_long : {number : ℕ} → number ≡ refusal_number cut_entry → is_some x.reader.refusal ≡ false → longest ≤ x.reader.held
      → stage_of (reader_of x.reader.seen (Some number) x.reader.offset x.reader.held x.reader.waiting) x.saved x.scratch ≡ journal_byte x b
  unfolding journal_byte
  too_long e n h = rw (e, n, le-leb longest x.reader.held h) refl

  past : is_some x.reader.refusal ≡ false → x.reader.held < longest → journal_max ≤ x.reader.offset + x.reader.held → x ≡ journal_byte x b
  unfolding journal_byte
  past n h o = rw (n, lt-leb longest x.reader.held h, le-leb journal_max (x.reader.offset + x.reader.held) o) refl

pub returns-then-is_some : goal.returns-then-is_some
returns-then-is_some c = λ saved. already (stage_of c.args.reader.now saved c.args.scratch.now) c.args.b (sym c.is_some.ensures ∙ c.if-is_some.true)

pub returns-then-held-ge-LONGEST : goal.returns-then-held-ge-LONGEST
returns-then-held-ge-LONGEST c = λ saved.
    too_long (stage_of c.args.reader.now saved c.args.scratch.now) c.args.b c.from.ensures (sym c.is_some.ensures ∙ c.if-is_some.false) c.if-held-ge-LONGEST.true

pub returns-then-held-reader : goal.returns-then-held-reader
returns-then-held-reader c = λ saved.
    let r = c.args.reader.now in
    let over : journal_max ≤ r.offset + r.held = omega arith in
    past (stage_of r saved c.args.scratch.now) c.args.b (sym c.is_some.ensures ∙ c.if-is_some.false) c.if-held-ge-LONGEST.false over

module _ (r : Reader) (saved scratch : List ℕ) (b : ℕ) (n : is_some r.refusal ≡ false) (h : r.held < longest) (o : r.offset + r.held < journal_max) where
  abbrev x : Stage
  x = stage_of r saved scratch

  counts : {told : Result (Unit {0}) Refusal} {after : List ℕ} {u : Unit {0}} → told ≡ counting_of scratch (read_entry (so_far r b))
      → after ≡ counted_on scratch (read_entry (so_far r b)) → told ≡ Ok u
      → stage_of (reader_of r.seen r.refusal (r.offset + (r.held + 1)) 0 (set r.waiting r.held b)) saved after ≡ journal_byte x b
  counts {after = after} e a i =
      ap (λ (p : Option ℕ). stage_of (reader_of r.seen p (r.offset + (r.held + 1)) 0 (set r.waiting r.held b)) saved after) (none_of r.refusal n)
      ∙ sym (reads_on x b n h o ∙ was_counted x b (read_entry (so_far r b)) e a i)

  waits : {told : Result (Unit {0}) Refusal} {after : List ℕ} → told ≡ counting_of scratch (read_entry (so_far r b))
      → after ≡ counted_on scratch (read_entry (so_far r b)) → told ≡ Err cut_entry
      → stage_of (reader_of r.seen r.refusal r.offset (r.held + 1) (set r.waiting r.held b)) saved after ≡ journal_byte x b
  waits {after = after} e a i =
      ap (λ (p : Option ℕ). stage_of (reader_of r.seen p r.offset (r.held + 1) (set r.waiting r.held b)) saved after) (none_of r.refusal n)
      ∙ was_cut x b (read_entry (so_far r b)) e a i
      ∙ sym (reads_on x b n h o)

  -- the byte is taken back
  refuses : {told : Result (Unit {0}) Refusal} {after : List ℕ} {f : Refusal} {number : ℕ} → number ≡ refusal_number f → told ≡ counting_of scratch (read_entry (so_far r b))
      → after ≡ counted_on scratch (read_entry (so_far r b)) → (f ≡ cut_entry → ⊥) → told ≡ Err f
      → stage_of (reader_of r.seen (Some number) r.offset r.held (set (set r.waiting r.held b) r.held (get_or r.waiting r.held 0))) saved after ≡ journal_byte x b
  refuses {after = after} {f} m e a c i =
      ap₂ (λ (n : ℕ) (l : List ℕ). stage_of (reader_of r.seen (Some n) r.offset r.held l) saved after) m
      (set-set r.waiting r.held b (get_or r.waiting r.held 0) ∙ set-get_or r.waiting r.held 0)
      ∙ was_refused x b (read_entry (so_far r b)) e a c i
      ∙ sym (reads_on x b n h o)

pub returns-in-Ok : goal.returns-in-Ok
returns-in-Ok c = λ saved.
    counts c.args.reader.now saved c.args.scratch.now c.args.b (sym c.is_some.ensures ∙ c.if-is_some.false) c.if-held-ge-LONGEST.false (omega arith)
    c.count_entry.ensures.value c.count_entry.ensures.scratch_after c.in-Ok.is

pub returns-in-CutEntry : goal.returns-in-CutEntry
returns-in-CutEntry c = λ saved.
    waits c.args.reader.now saved c.args.scratch.now c.args.b (sym c.is_some.ensures ∙ c.if-is_some.false) c.if-held-ge-LONGEST.false (omega arith)
    c.count_entry.ensures.value c.count_entry.ensures.scratch_after (c.in-Err.is ∙ ap Err c.in-CutEntry.is)

pub returns-in_default : goal.returns-in_default
returns-in_default c = λ saved.
    refuses c.args.reader.now saved c.args.scratch.now c.args.b (sym c.is_some.ensures ∙ c.if-is_some.false) c.if-held-ge-LONGEST.false (omega arith)
    c.from-in_default.ensures c.count_entry.ensures.value c.count_entry.ensures.scratch_after c.in_default.not-CutEntry c.in-Err.is
