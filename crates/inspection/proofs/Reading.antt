-- One entry's bytes read and counted, as the code's structs tell it. Assumes nothing.
use Prim.Native.Nat.{ℕ, ◌+◌, ◌-◌, ◌≤◌, ◌<◌}
use mathlib.Core.Path.{◌≡◌, refl, sym, ap, ap₂, ◌∙◌}
use mathlib.Core.Bool.{true, false, true≢false, cond, not}
use mathlib.Core.List.{List, [], ◌∷◌, ◌++◌, foldl, foldl-append}
use mathlib.Core.Option.{Option, none, some}
use native.Mathlib.Omega.{arith}
use native.Mathlib.Numerals.{add-one}
use lib.Dec.{eqb}
use lib.ListN.{length, get_or, take, set}
use lib.Seq.{take-suc}
use borrow.Author.Tests.{lt-leb, le-ltb}
use Rattle.std.specs.Prelude as code
use Rattle.std.specs.Option.{is_some}
use Rattle.std.proofs.Common.{None, Some, Result, Ok, Err}
use Rattle.layout.specs.Numbers.{refusal_number}
use Rattle.layout.specs.Words.{bytes4, bytes8}
use Rattle.layout.specs.declared.refusals.Refusal.{Refusal}
use Rattle.layout.specs.declared.refusals.Refusal.TheVariants.{CutEntry}
use Rattle.layout.specs.Refusals.{cut_entry}
use Rattle.journal.specs.Read.{Read, refused, got, map_read}
use Rattle.journal.proofs.Says.{Says}
use Rattle.journal.proofs.Entries.{EntrySized, entry_sized}
use Rattle.journal.specs.Entries.{Entry, read_entry, longest}
use Rattle.journal_bytes.specs.Results.{parts_of, entry_in, taken_of, entry_read}
use Rattle.journal_bytes.specs.declared.entry.EntryParts.{EntryParts}
use Rattle.journal_bytes.proofs.Entries.{parts_entry}
use Rattle.recount.specs.OnImage.{made_on, counting_in, image_after}
use Rattle.replaying.specs.Report.{image_bytes, journal_max}
use Rattle.inspection.specs.Stages.{Stage, verdict_at, told_of, told, stage_of, reader_of, refused_with, waiting_with, counted_with, counting_of, counted_on, read_with, so_far, journal_byte, one_byte}

-- ---- the bytes of an entry: what they count as by what was read

module _ (scratch l : List ℕ) where
  told_by : (R : Read Entry) (r : Refusal) → Err r ≡ taken_of l (map_read parts_of R) → R ≡ refused r
  told_by (refused n) r e = let q : r ≡ n = cc in ap refused (sym q)
  told_by (got v rest) r e = let z : ◌≡◌ {A = ℕ} 0 1 = cc in absurd (omega arith)

  pub read_refuses : (r : Refusal) → Err r ≡ entry_read l → read_entry l ≡ refused r
  unfolding entry_read
  read_refuses r e = told_by (read_entry l) r e

  -- parts that were read, and the entry that they are
  abbrev pub CountsAs : EntryParts → Read Entry → Type 0
  CountsAs p R = (counting_of scratch R ≡ counting_in (made_on scratch (entry_in p))) × (counted_on scratch R ≡ image_after (made_on scratch (entry_in p)) scratch)

  counted_by : (R : Read Entry) (p : EntryParts) (n : ℕ) → Says (λ e rest. EntrySized e) R → Ok (p, n) ≡ taken_of l (map_read parts_of R) → CountsAs p R
  counted_by (refused r) p n s e = let z : ◌≡◌ {A = ℕ} 0 1 = cc in absurd (omega arith)
  counted_by (got v rest) p n s e =
      let both : (p, n) ≡ (parts_of v, length l - length rest) = cc in
      let q : p ≡ parts_of v = ap (λ (x : EntryParts × ℕ). x.0) both in
      let same : v ≡ entry_in p = sym (ap entry_in q ∙ parts_entry v s) in
      (ap (λ (v : Entry). counting_in (made_on scratch v)) same, ap (λ (v : Entry). image_after (made_on scratch v) scratch) same)

  pub read_counts : (p : EntryParts) (n : ℕ) → Ok (p, n) ≡ entry_read l → CountsAs p (read_entry l)
  unfolding entry_read
  read_counts p n e = counted_by (read_entry l) p n (entry_sized l) e

pub read_other : (x : Stage) (b : ℕ) (n : Refusal) → (n ≡ cut_entry → ⊥) → read_with x b (refused n) ≡ refused_with x n
read_other x b CutEntry h = absurd (h refl)
read_other x b _ h = refl

-- ---- the stage by what they count as: a cut entry waits, another refusal stays

-- an image on which nothing counts stays
stays_in : (o : Option (List ℕ)) (scratch : List ℕ) (r : Refusal) → Err r ≡ counting_in o → image_after o scratch ≡ scratch
stays_in none scratch r e = refl
stays_in (some l) scratch r e = let z : ◌≡◌ {A = ℕ} 0 1 = cc in absurd (omega arith)

stays : (scratch : List ℕ) (R : Read Entry) (r : Refusal) → Err r ≡ counting_of scratch R → counted_on scratch R ≡ scratch
stays scratch (refused n) r e = refl
stays scratch (got v rest) r e = stays_in (made_on scratch v) scratch r e

module _ (x : Stage) (b : ℕ) where
  abbrev pub after_count : Result (Unit {0}) Refusal → List ℕ → Stage
  after_count (Ok u) image =
      let r = x.reader in
      stage_of (reader_of r.seen None (r.offset + (r.held + 1)) 0 (set r.waiting r.held b)) x.saved image
  after_count (Err CutEntry) image = waiting_with x b
  after_count (Err n) image = refused_with x n

  refused_after : (n : Refusal) → read_with x b (refused n) ≡ after_count (Err n) x.scratch
  refused_after CutEntry = refl
  refused_after _ = refl

  made_after : (o : Option (List ℕ)) → counted_with x b o ≡ after_count (counting_in o) (image_after o x.scratch)
  made_after none = refl
  made_after (some l) = refl

  read_after : (R : Read Entry) → read_with x b R ≡ after_count (counting_of x.scratch R) (counted_on x.scratch R)
  read_after (refused n) = refused_after n
  read_after (got v rest) = made_after (made_on x.scratch v)

  after_other : (n : Refusal) (image : List ℕ) → (n ≡ cut_entry → ⊥) → after_count (Err n) image ≡ refused_with x n
  after_other CutEntry image h = absurd (h refl)
  after_other _ image h = refl

  module _ (R : Read Entry) {told : Result (Unit {0}) Refusal} {image : List ℕ} (e : told ≡ counting_of x.scratch R) (a : image ≡ counted_on x.scratch R) where
    pub was_counted : {u : Unit {0}} → told ≡ Ok u → read_with x b R ≡ after_count (Ok u) image
    was_counted i = read_after R ∙ ap₂ after_count (sym e ∙ i) (sym a)

    pub was_cut : told ≡ Err cut_entry → stage_of (waiting_with x b).reader x.saved image ≡ read_with x b R
    was_cut i =
        ap (stage_of (waiting_with x b).reader x.saved) (a ∙ stays x.scratch R cut_entry (sym i ∙ e))
        ∙ sym (read_after R ∙ ap₂ after_count (sym e ∙ i) (sym a))

    pub was_refused : {n : Refusal} → (n ≡ cut_entry → ⊥) → told ≡ Err n → stage_of (refused_with x n).reader x.saved image ≡ read_with x b R
    was_refused {n} h i =
        ap (stage_of (refused_with x n).reader x.saved) (a ∙ stays x.scratch R n (sym i ∙ e))
        ∙ sym (read_after R ∙ ap₂ after_count (sym e ∙ i) (sym a) ∙ after_other n image h)

-- no refusal, by the test of it
pub none_of : (o : code.Option ℕ) → is_some o ≡ false → o ≡ None
none_of None h = refl
none_of (Some r) h = absurd (true≢false h)

-- ---- a byte of the journal that is read

pub reads_on : (x : Stage) (b : ℕ) → let r = x.reader in
    is_some r.refusal ≡ false → r.held < longest → r.offset + r.held < journal_max → journal_byte x b ≡ read_with x b (read_entry (so_far r b))
unfolding journal_byte
reads_on x b n h o =
    let r = x.reader in
    rw (n, lt-leb longest r.held h, lt-leb journal_max (r.offset + r.held) o) refl

-- ---- what is told without a refusal

pub told_none : (o : code.Option ℕ) → o ≡ None → (at : ℕ) (v : List ℕ) → told_of o at v ≡ v
told_none o e at v = rw e refl

pub told_going : (x : Stage) → image_bytes ≤ x.reader.seen → x.reader.refusal ≡ None
    → told x ≡ cond (not (eqb x.reader.held 0)) (bytes4 (refusal_number cut_entry) ++ bytes8 x.reader.offset) (bytes4 0 ++ (bytes8 0 ++ verdict_at x))
unfolding told
told_going x h e = rw (le-ltb x.reader.seen image_bytes h) (told_none x.reader.refusal e x.reader.offset _)

-- ---- byte by byte

pub fed_more : (x y : Stage) (piece : List ℕ) (i : ℕ) → i < length piece → y ≡ foldl one_byte x (take i piece)
    → foldl one_byte x (take (i + 1) piece) ≡ one_byte y (get_or piece i 0)
fed_more x y piece i h e = rw (add-one, take-suc piece i 0 h, foldl-append one_byte x (take i piece) (get_or piece i 0 ∷ []), e)
