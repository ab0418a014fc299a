-- The journal byte by byte: what is kept says what a walk over the bytes so far comes to, whatever follows. Assumes nothing.
use mathlib.Core.Path.{◌≡◌, refl, sym, ap, ◌∙◌, subst}
use Prim.Native.Nat.{ℕ, zero, suc, ◌+◌, ◌<◌}
use native.Mathlib.Omega.{arith}
use mathlib.Core.Logic.{inl, inr}
use mathlib.Core.Bool.{Bool, true, false, true≢false}
use mathlib.Core.List.{List, [], ◌∷◌, ◌++◌, append_assoc, append-nil}
use mathlib.Core.Option.{Option}
use lib.ListN.{length, set, take, length-append, length-set}
use lib.Seq.{length-take-le}
use borrow.Author.Tests.{le-leb, lt-leb}
use Rattle.std.proofs.Common.{Some, None}
use Rattle.layout.specs.declared.refusals.Refusal.{Refusal}
use Rattle.layout.specs.Numbers.{refusal_number}
use Rattle.layout.specs.Refusals.{cut_entry, uncounted}
use Rattle.journal.specs.Read.{Read, refused, got}
use Rattle.journal.specs.Entries.{Entry, entry_bytes, read_entry, longest}
use Rattle.journal.specs.Journal.{Walked, stopped, walk}
use Rattle.journal.specs.Statements.{Bytes, Takes}
use Rattle.journal.proofs.Refusals.{cut_or_not}
use Rattle.journal.proofs.Says.{Says}
use Rattle.journal.proofs.Bytes.{bytes_rest}
use Rattle.journal.proofs.Entries.{read_entry_law, EntryIs, entry_says}
use Rattle.journal.proofs.Behind.{entry_takes}
use Rattle.journal.proofs.Journal.{piece_got, piece_uncounted, piece_refused}
use Rattle.replaying.specs.Replay.{Replay, fresh, countable, counted, count}
use Rattle.replaying.specs.Report.{journal_max}
use Rattle.recount.specs.OnImage.{made_on}
use Rattle.recount.proofs.Shown.{shown, Reach}
use Rattle.recount.proofs.Counting.{recount_made, recount_none}
use Rattle.inspection.specs.declared.reader.Reader.{Reader}
use Rattle.inspection.proofs.Reading.{read_other}
use Rattle.inspection.specs.Stages.{Stage, refused_with, waiting_with, counted_with, read_with, so_far, journal_byte}

-- one byte more behind those that wait
pub set_behind : (l : List ℕ) (k b : ℕ) → k < length l → take (k + 1) (set l k b) ≡ take k l ++ (b ∷ [])
set_behind l k b h = ap (λ (n : ℕ). take n (set l k b)) (add-one k) ∙ go l k h
  where
    add-one : (k : ℕ) → k + 1 ≡ suc k
    add-one k = omega arith

    go : (l : List ℕ) (k : ℕ) → k < length l → take (suc k) (set l k b) ≡ take k l ++ (b ∷ [])
    go [] k h = absurd (omega arith)
    go (x ∷ l) zero h = refl
    go (x ∷ l) (suc k) h = ap (λ (t : List ℕ). x ∷ t) (go l k (omega arith))

-- ---- what is kept

-- the walk over the bytes j, whatever follows
abbrev Walks : List ℕ → (List ℕ → Walked Replay) → Type 0
Walks j f = (m : List ℕ) → walk count 0 fresh (j ++ m) ≡ f m

-- a refusal that stays
pub record Stopped (j : List ℕ) (r : Reader) : Type 0 where
  pub refusal : Refusal
  pub kept : r.refusal ≡ Some (refusal_number refusal)
  pub walks : Walks j (λ m. stopped refusal r.offset)

-- or entries that count, and the bytes of one that is not whole
pub record Going (j : List ℕ) (r : Reader) (scratch : List ℕ) : Type 0 where
  pub state : Replay
  pub reach : Reach state
  pub image : scratch ≡ shown state
  pub no_refusal : r.refusal ≡ None
  pub room : length r.waiting ≡ longest
  pub few : r.held < longest
  pub cut : read_entry (take r.held r.waiting) ≡ refused cut_entry
  pub before : List ℕ
  pub split : j ≡ before ++ take r.held r.waiting
  pub there : r.offset ≡ length before
  pub walks : Walks j (λ m. walk count r.offset state (take r.held r.waiting ++ m))

pub data Along (j : List ℕ) (x : Stage) : Type 0 where
  stays : Stopped j x.reader → Along j x
  goes : Going j x.reader x.scratch → Along j x

-- ---- one byte more of an entry

-- the front of a list whose last element goes
front_of : (a : List ℕ) (r : ℕ) (rs w : List ℕ) (b : ℕ) → a ++ (r ∷ rs) ≡ w ++ (b ∷ []) → (m : List ℕ) × (w ≡ a ++ m)
front_of [] r rs w b e = (w, refl)
front_of (x ∷ a) r rs [] b e = absurd (omega (arith, ap length e, length-append a (r ∷ rs)))
front_of (x ∷ a) r rs (y ∷ w) b e =
    let m = front_of a r rs w b (ap tail e) in
    (m.0, λ i. first (sym e i) ∷ m.1 i)
  where
    tail : List ℕ → List ℕ
    tail [] = []
    tail (x ∷ l) = l

    first : List ℕ → ℕ
    first [] = 0
    first (x ∷ l) = x

-- the byte that makes an entry whole is its last
no_rest : (w : List ℕ) (b : ℕ) (e : Entry) (rest : List ℕ) → EntryIs (w ++ (b ∷ [])) e rest → read_entry w ≡ refused cut_entry → rest ≡ []
no_rest w b e [] s c = refl
no_rest w b e (r ∷ rs) s c =
    let m = front_of (entry_bytes e) r rs w b s.0 in
    absurd (true≢false (sym (ap is_got (ap read_entry m.1 ∙ read_entry_law e m.0 s.1)) ∙ ap is_got c))
  where
    is_got : Read Entry → Bool
    is_got (refused n) = false
    is_got (got v rest) = true

-- ---- one byte more of the journal

module _ (j : List ℕ) (b : ℕ) (x : Stage) (g : Going j x.reader x.scratch) (s : Bytes (j ++ (b ∷ []))) where
  abbrev w : List ℕ
  w = take x.reader.held x.reader.waiting

  long : length w ≡ x.reader.held
  long = length-take-le x.reader.held x.reader.waiting (omega (arith, g.few, g.room))

  -- j and the byte, behind the entries that count
  split_more : j ++ (b ∷ []) ≡ g.before ++ (w ++ (b ∷ []))
  split_more = ap (λ (l : List ℕ). l ++ (b ∷ [])) g.split ∙ append_assoc g.before w (b ∷ [])

  bytes : Bytes (w ++ (b ∷ []))
  bytes = bytes_rest g.before (w ++ (b ∷ [])) (j ++ (b ∷ [])) (sym split_more) s

  -- the walk over j and the byte
  walks_more : Walks (j ++ (b ∷ [])) (λ m. walk count x.reader.offset g.state ((w ++ (b ∷ [])) ++ m))
  walks_more m =
      ap (walk count 0 fresh) (append_assoc j (b ∷ []) m)
      ∙ g.walks (b ∷ m)
      ∙ ap (walk count x.reader.offset g.state) (sym (append_assoc w (b ∷ []) m))

  some_byte : 0 < length (w ++ (b ∷ []))
  some_byte = omega (arith, length-append w (b ∷ []))

  so_far_law : so_far x.reader b ≡ w ++ (b ∷ [])
  so_far_law = set_behind x.reader.waiting x.reader.held b (omega (arith, g.few, g.room))

  -- it waits
  waits : read_entry (w ++ (b ∷ [])) ≡ refused cut_entry → Along (j ++ (b ∷ [])) (waiting_with x b)
  waits e =
      goes
      (record {
        state = g.state;
        reach = g.reach;
        image = g.image;
        no_refusal = refl;
        room = length-set x.reader.waiting x.reader.held b ∙ g.room;
        few = few_now (rw e at (entry_takes (w ++ (b ∷ []))));
        cut = ap read_entry so_far_law ∙ e;
        before = g.before;
        split = split_more ∙ ap (λ (l : List ℕ). g.before ++ l) (sym so_far_law);
        there = g.there;
        walks = λ m. walks_more m ∙ ap (λ (l : List ℕ). walk count x.reader.offset g.state (l ++ m)) (sym so_far_law);
      })
    where
      few_now : Takes {A = Entry} 1 longest (w ++ (b ∷ [])) (refused cut_entry) → x.reader.held + 1 < longest
      few_now t = omega (arith, t refl, length-append w (b ∷ []), long)

  -- it is refused
  stops : (n : Refusal) → Walks (j ++ (b ∷ [])) (λ m. stopped n x.reader.offset) → Along (j ++ (b ∷ [])) (refused_with x n)
  stops n t = stays (record { refusal = n; kept = refl; walks = t })

  -- it is whole
  whole : (e : Entry) (rest : List ℕ) → read_entry (w ++ (b ∷ [])) ≡ got e rest → EntryIs (w ++ (b ∷ [])) e rest
      → Along (j ++ (b ∷ [])) (counted_with x b (made_on x.scratch e))
  whole e rest r is = by_count (countable g.state e) refl
    where
      read : read_entry (w ++ (b ∷ [])) ≡ got e []
      read = r ∙ ap (got e) (no_rest w b e rest is g.cut)

      by_count : (c : Bool) → countable g.state e ≡ c → Along (j ++ (b ∷ [])) (counted_with x b (made_on x.scratch e))
      by_count true c =
          let made = recount_made g.state g.reach e is.1 c in
          subst (λ (o : Option (List ℕ)). Along (j ++ (b ∷ [])) (counted_with x b o)) (sym (ap (λ (l : List ℕ). made_on l e) g.image ∙ made.0))
          (goes
          (record {
            state = counted g.state e;
            reach = made.1;
            image = refl;
            no_refusal = refl;
            room = length-set x.reader.waiting x.reader.held b ∙ g.room;
            few = omega arith;
            cut = unfold read_entry in refl;
            before = j ++ (b ∷ []);
            split = sym (append-nil (j ++ (b ∷ [])));
            there = omega (arith, g.there, ap length g.split, length-append g.before w, length-append j (b ∷ []), long);
            walks = λ m. walks_more m
                ∙ piece_got count x.reader.offset g.state (w ++ (b ∷ [])) m e [] (counted g.state e) read (unfold count in rw c)
                ∙ ap (λ (k : ℕ). walk count k (counted g.state e) m) (omega (arith, length-append w (b ∷ []), long));
          }))
      by_count false c =
          subst (λ (o : Option (List ℕ)). Along (j ++ (b ∷ [])) (counted_with x b o))
          (sym (ap (λ (l : List ℕ). made_on l e) g.image ∙ recount_none g.state g.reach e is.1 c))
          (stops uncounted (λ m. walks_more m ∙ piece_uncounted count x.reader.offset g.state (w ++ (b ∷ [])) m e [] read (unfold count in rw c)))

  by_read : (R : Read Entry) → read_entry (w ++ (b ∷ [])) ≡ R → Says (EntryIs (w ++ (b ∷ []))) R → Along (j ++ (b ∷ [])) (read_with x b R)
  by_read (refused n) e says = elim (cut_or_not n) [
    | inl q ↦ rw q (waits (e ∙ ap refused q))
    | inr q ↦ rw (read_other x b n q)
        (stops n (λ m. walks_more m ∙ piece_refused count x.reader.offset g.state (w ++ (b ∷ [])) m n some_byte e q))
  ]
  by_read (got e rest) q says = whole e rest q says

  pub goes_on : length j < journal_max → Along (j ++ (b ∷ [])) (journal_byte x b)
  unfolding journal_byte
  goes_on h =
      rw (
        g.no_refusal,
        lt-leb longest x.reader.held g.few,
        lt-leb journal_max (x.reader.offset + x.reader.held) (omega (arith, g.there, ap length g.split, length-append g.before w, long)),
        so_far_law,
      ) (by_read (read_entry (w ++ (b ∷ []))) refl (entry_says (w ++ (b ∷ [])) bytes))

-- past the journal's first bytes nothing is read
pub full : (j : List ℕ) (b : ℕ) (x : Stage) → length j ≡ journal_max → Along j x → journal_byte x b ≡ x
unfolding journal_byte
full j b x h (stays t) = rw t.kept refl
full j b x h (goes g) =
    rw (
      g.no_refusal,
      lt-leb longest x.reader.held g.few,
      le-leb journal_max (x.reader.offset + x.reader.held)
          (omega (arith, g.there, ap length g.split, length-append g.before (take x.reader.held x.reader.waiting), length-take-le x.reader.held x.reader.waiting (omega (arith, g.few, g.room)))),
    )

pub one_more : (j : List ℕ) (b : ℕ) (x : Stage) → Bytes (j ++ (b ∷ [])) → length j < journal_max → Along j x → Along (j ++ (b ∷ [])) (journal_byte x b)
unfolding journal_byte
one_more j b x s h (stays t) =
    rw t.kept
    (stays (record { refusal = t.refusal; kept = refl; walks = λ m. ap (walk count 0 fresh) (append_assoc j (b ∷ []) m) ∙ t.walks (b ∷ m) }))
one_more j b x s h (goes g) = goes_on j b x g s h
