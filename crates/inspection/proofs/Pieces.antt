-- Wherever the input is cut, the inspection tells what the program is defined to write. Assumes nothing.
use mathlib.Core.Path.{◌≡◌, refl, sym, ap, ◌∙◌, subst}
use Prim.Native.Nat.{ℕ, zero, suc, ◌+◌, ◌≤◌, ◌<◌}
use native.Mathlib.Omega.{arith}
use native.Mathlib.Decide.{ℕ_discrete, dec_lt}
use mathlib.Core.Bool.{Bool, true, false, cond, not}
use mathlib.Core.List.{List, [], ◌∷◌, ◌++◌, foldl, foldl-append, append_assoc, append-nil}
use lib.Dec.{eqb, leb, ltb}
use lib.ListN.{length, set, take, drop, length-append, length-set, take-append-drop}
use lib.Seq.{length-take-le, take_all, take-append-le}
use borrow.Author.Tests.{eq-eqb, ne_eqb, lt-ltb, le-ltb}
use Rattle.layout.specs.Sizes.{image_words}
use Rattle.layout.specs.Words.{zeros, flat, bytes4, bytes8, words_at}
use Rattle.layout.specs.Refusals.{cut_entry}
use Rattle.layout.proofs.Tab.{length_zeros}
use mathlib.Core.Option.{Option, none, some}
use Rattle.journal.specs.Entries.{Entry, read_entry, longest}
use Rattle.std.proofs.Common.{None}
use Rattle.std.specs.Option.{is_some}
use Rattle.layout.specs.declared.refusals.Refusal.TheVariants.{CutEntry}
use Rattle.layout.specs.Numbers.{refusal_number}
use Rattle.journal.specs.Read.{Read, refused, got}
use Rattle.journal.proofs.Entries.{entry_none}
use Rattle.journal.specs.Journal.{walk}
use Rattle.journal.specs.Statements.{Bytes}
use Rattle.journal.proofs.Bytes.{bytes_rest, bytes_front}
use Rattle.journal.proofs.Journal.{walk_end, walk_refused}
use Rattle.replaying.specs.Replay.{fresh, count, replay}
use Rattle.replaying.specs.Report.{image_bytes, journal_max, report, output}
use Rattle.recount.proofs.Shown.{unbooted}
use Rattle.recount.specs.OnImage.{made_on}
use Rattle.inspection.proofs.Reading.{told_none}
use Rattle.inspection.specs.Stages.{Stage, reader_of, stage_of, begun, with_saved, refused_with, counted_with, read_with, so_far, journal_byte, one_byte, fed_with, verdict_at, told_of, told}
use Rattle.inspection.specs.Pieces.{at_first, Pieces}
use Rattle.inspection.proofs.Verdict.{verdict_same}
use Rattle.inspection.proofs.Along.{Going, Along, stays, goes, full, one_more, set_behind}

-- ---- pieces one after another are their bytes

fed_flat : (pieces : List (List ℕ)) (x : Stage) → foldl fed_with x pieces ≡ foldl one_byte x (flat pieces)
unfolding fed_with
fed_flat [] x = refl
fed_flat (p ∷ ps) x = fed_flat ps (foldl one_byte x p) ∙ sym (foldl-append one_byte x p (flat ps))

-- ---- the saved image

-- n of its bytes are seen
abbrev saving : ℕ → List ℕ → Stage
saving n saved = stage_of (reader_of n None 0 0 (zeros longest)) saved (zeros image_words)

pub record Saved (l : List ℕ) (x : Stage) : Type 0 where
  pub bytes : List ℕ
  pub size : length bytes ≡ image_bytes
  pub front : take (length l) bytes ≡ l
  pub stage : x ≡ saving (length l) bytes

saved_more : (l : List ℕ) (b : ℕ) (x : Stage) → length l < image_bytes → Saved l x → Saved (l ++ (b ∷ [])) (one_byte x b)
unfolding one_byte
saved_more l b x h s =
    let e : length (l ++ (b ∷ [])) ≡ length l + 1 = length-append l (b ∷ []) in
    record {
      bytes = set s.bytes (length l) b;
      size = length-set s.bytes (length l) b ∙ s.size;
      front =
          ap (λ (n : ℕ). take n (set s.bytes (length l) b)) e
          ∙ set_behind s.bytes (length l) b (omega (arith, s.size))
          ∙ ap (λ (t : List ℕ). t ++ (b ∷ [])) s.front;
      stage =
          ap (λ (y : Stage). cond (ltb y.reader.seen image_bytes) (with_saved y b) (journal_byte y b)) s.stage
          ∙ rw (lt-ltb (length l) image_bytes h) (ap (λ (n : ℕ). saving n (set s.bytes (length l) b)) (sym e));
    }

saved_all : (l m : List ℕ) (x : Stage) → length (l ++ m) ≤ image_bytes → Saved l x → Saved (l ++ m) (foldl one_byte x m)
saved_all l [] x h s = subst (λ (t : List ℕ). Saved t x) (sym (append-nil l)) s
saved_all l (b ∷ m) x h s =
    subst (λ (t : List ℕ). Saved t (foldl one_byte (one_byte x b) m)) (append_assoc l (b ∷ []) m)
    (saved_all (l ++ (b ∷ [])) m (one_byte x b) (subst (λ (t : List ℕ). length t ≤ image_bytes) (sym (append_assoc l (b ∷ []) m)) h)
    (saved_more l b x (omega (arith, length-append l (b ∷ m))) s))

-- an image that is not whole, or that is
pub saved_image : (l : List ℕ) → length l ≤ image_bytes → Saved l (foldl one_byte at_first l)
unfolding begun
saved_image l h = saved_all [] l at_first h (record { bytes = zeros image_bytes; size = length_zeros image_bytes; front = refl; stage = refl })

-- ---- the journal

-- what is kept of the journal's bytes, once the image is whole
pub record Inspecting (saved journal : List ℕ) (x : Stage) : Type 0 where
  pub seen : x.reader.seen ≡ image_bytes
  pub image : x.saved ≡ saved
  pub along : Along (take journal_max journal) x

-- a byte of the journal changes nothing of the image
record Kept (x y : Stage) : Type 0 where
  pub seen : y.reader.seen ≡ x.reader.seen
  pub saved : y.saved ≡ x.saved

kept : (x : Stage) (b : ℕ) → Kept x (journal_byte x b)
unfolding journal_byte
kept x b =
    go (is_some x.reader.refusal) (leb longest x.reader.held) (leb journal_max (x.reader.offset + x.reader.held)) (read_entry (so_far x.reader b))
  where
    same : {y : Stage} → y.reader.seen ≡ x.reader.seen → y.saved ≡ x.saved → Kept x y
    same p q = record { seen = p; saved = q }

    by_count : (o : Option (List ℕ)) → Kept x (counted_with x b o)
    by_count none = same refl refl
    by_count (some image) = same refl refl

    by_read : (R : Read Entry) → Kept x (read_with x b R)
    by_read (refused CutEntry) = same refl refl
    by_read (refused n) = same refl refl
    by_read (got e rest) = by_count (made_on x.scratch e)

    go : (p q r : Bool) (R : Read Entry) → Kept x (cond p x (cond q (refused_with x cut_entry) (cond r x (read_with x b R))))
    go true q r R = same refl refl
    go false true r R = same refl refl
    go false false true R = same refl refl
    go false false false R = by_read R

-- one byte more
inspecting_more : (saved journal : List ℕ) (b : ℕ) (x : Stage) → Bytes (journal ++ (b ∷ [])) → Inspecting saved journal x
    → Inspecting saved (journal ++ (b ∷ [])) (one_byte x b)
unfolding one_byte
inspecting_more saved journal b x s i =
    rw (le-ltb x.reader.seen image_bytes (omega (arith, i.seen)))
    (record { seen = (kept x b).seen ∙ i.seen; image = (kept x b).saved ∙ i.image; along = along (dec_lt (length journal) journal_max) })
  where
    along : Dec (length journal < journal_max) → Along (take journal_max (journal ++ (b ∷ []))) (journal_byte x b)
    along (yes l) =
        subst (λ (t : List ℕ). Along t (journal_byte x b))
        (sym (take_all journal_max (journal ++ (b ∷ [])) (omega (arith, length-append journal (b ∷ [])))))
        (one_more journal b x s l (subst (λ (t : List ℕ). Along t x) (take_all journal_max journal (omega arith)) i.along))
    along (no g) =
        subst (λ (t : List ℕ). Along t (journal_byte x b)) (sym (take-append-le journal_max journal (b ∷ []) (omega arith)))
        (subst (λ (y : Stage). Along (take journal_max journal) y)
        (sym (full (take journal_max journal) b x (length-take-le journal_max journal (omega arith)) i.along))
        i.along)

inspecting_all : (saved journal m : List ℕ) (x : Stage) → Bytes (journal ++ m) → Inspecting saved journal x → Inspecting saved (journal ++ m) (foldl one_byte x m)
inspecting_all saved journal [] x s i = subst (λ (t : List ℕ). Inspecting saved t x) (sym (append-nil journal)) i
inspecting_all saved journal (b ∷ m) x s i =
    let whole : (journal ++ (b ∷ [])) ++ m ≡ journal ++ (b ∷ m) = append_assoc journal (b ∷ []) m in
    let bytes : Bytes ((journal ++ (b ∷ [])) ++ m) = subst Bytes (sym whole) s in
    subst (λ (t : List ℕ). Inspecting saved t (foldl one_byte (one_byte x b) m)) whole
    (inspecting_all saved (journal ++ (b ∷ [])) m (one_byte x b) bytes (inspecting_more saved journal b x (bytes_front (journal ++ (b ∷ [])) m _ refl bytes) i))

-- behind a whole image
inspecting_none : (l : List ℕ) (x : Stage) → length l ≡ image_bytes → Saved l x → Inspecting l [] x
inspecting_none l x e s =
    subst (Inspecting l []) (sym s.stage)
    (record {
      seen = e;
      image = sym (take_all image_bytes s.bytes (omega (arith, s.size))) ∙ ap (λ (n : ℕ). take n s.bytes) (sym e) ∙ s.front;
      along =
          subst (λ (t : List ℕ). Along t (saving (length l) s.bytes)) (sym (take_all {A = ℕ} journal_max [] (omega arith)))
          (goes
          (record {
            state = fresh;
            reach = unbooted refl;
            image = refl;
            no_refusal = refl;
            room = length_zeros longest;
            few = omega arith;
            cut = entry_none;
            before = [];
            split = refl;
            there = refl;
            walks = λ m. refl;
          }));
    })

-- ---- what is told

positive : (n : ℕ) → (n ≡ 0 → ⊥) → 0 < n
positive zero h = absurd (h refl)
positive (suc n) h = omega arith

-- of an image that is not whole
told_short : (l : List ℕ) (x : Stage) → length l < image_bytes → Saved l x → told x ≡ output l
unfolding told output
told_short l x h s = ap told s.stage ∙ rw (lt-ltb (length l) image_bytes h)

-- of a whole one, and a journal
told_whole : (input : List ℕ) (x : Stage) → image_bytes ≤ length input → Inspecting (take image_bytes input) (drop image_bytes input) x → told x ≡ output input
unfolding told output
told_whole input x h i =
    rw (le-ltb x.reader.seen image_bytes (omega (arith, i.seen)), le-ltb (length input) image_bytes h) (by_along i.along)
  where
    j : List ℕ
    j = take journal_max (drop image_bytes input)

    image : List ℕ
    image = words_at image_words input 0

    by_along : Along (take journal_max (drop image_bytes input)) x
        → told_of x.reader.refusal x.reader.offset
        (cond (not (eqb x.reader.held 0)) (bytes4 (refusal_number cut_entry) ++ bytes8 x.reader.offset) (bytes4 0 ++ (bytes8 0 ++ verdict_at x)))
        ≡ report (words_at image_words input 0) (replay (take journal_max (drop image_bytes input)))
    by_along (stays t) =
        rw t.kept
        (sym (ap (report image) (ap replay (sym (append-nil j)) ∙ t.walks [])))
    by_along (goes g) = elim (ℕ_discrete x.reader.held 0) [
      | yes z ↦ told_none x.reader.refusal g.no_refusal x.reader.offset _ ∙ rw (eq-eqb x.reader.held 0 z)
          (ap (λ (v : List ℕ). bytes4 0 ++ (bytes8 0 ++ v)) (verdict_same x g.state input g.reach g.image i.image)
          ∙ sym (ap (report image)
          (ap replay (sym (append-nil j))
          ∙ g.walks []
          ∙ ap (λ (n : ℕ). walk count x.reader.offset g.state (take n x.reader.waiting ++ [])) z
          ∙ walk_end count x.reader.offset g.state)))
      | no z ↦ told_none x.reader.refusal g.no_refusal x.reader.offset _ ∙ rw (ne_eqb x.reader.held 0 z)
          (sym (ap (report image)
          (ap replay (sym (append-nil j))
          ∙ g.walks []
          ∙ ap (walk count x.reader.offset g.state) (append-nil (waiting g))
          ∙ walk_refused count x.reader.offset g.state (waiting g) cut_entry (some_wait g z) g.cut)))
    ]
      where
        waiting : Going (take journal_max (drop image_bytes input)) x.reader x.scratch → List ℕ
        waiting g = take x.reader.held x.reader.waiting

        some_wait : (g : Going (take journal_max (drop image_bytes input)) x.reader x.scratch) → (x.reader.held ≡ 0 → ⊥)
            → 0 < length (take x.reader.held x.reader.waiting)
        some_wait g z = omega (arith, positive x.reader.held z, length-take-le x.reader.held x.reader.waiting (omega (arith, g.few, g.room)))

-- ---- the theorem

all_bytes : (input : List ℕ) → Bytes input → told (foldl one_byte at_first input) ≡ output input
all_bytes input s = elim (dec_lt (length input) image_bytes) [
  | yes l ↦ told_short input (foldl one_byte at_first input) l (saved_image input (omega arith))
  | no g ↦
      let front = take image_bytes input in
      let behind = drop image_bytes input in
      let long : length front ≡ image_bytes = length-take-le image_bytes input (omega arith) in
      let split : front ++ behind ≡ input = take-append-drop image_bytes input in
      let x = foldl one_byte at_first front in
      let w : Inspecting front behind (foldl one_byte x behind)
      = inspecting_all front [] behind x (bytes_rest front behind input split s) (inspecting_none front x long (saved_image front (omega arith))) in
      ap told (ap (foldl one_byte at_first) (sym split) ∙ foldl-append one_byte at_first front behind) ∙ told_whole input (foldl one_byte x behind) (omega arith) w
]

pub pieces : Pieces
pieces ps s = ap told (fed_flat ps at_first) ∙ all_bytes (flat ps) s
