-- Whole journals: a walk step by step, a journal read back, and a journal that comes in pieces. Assumes nothing.
use Prim.Native.Nat.{ℕ, zero, suc, ◌+◌, ◌-◌, ◌≤◌, ◌<◌}
use mathlib.Core.Path.{◌≡◌, refl, sym, ap, ◌∙◌}
use mathlib.Core.List.{List, [], ◌∷◌, ◌++◌, append_assoc, append-nil}
use mathlib.Core.Option.{Option, none, some}
use native.Mathlib.Omega.{arith}
use native.Mathlib.Nat.{add-zero, not-suc-le-zero}
use lib.ListN.{length, length-append}
use Rattle.layout.specs.declared.refusals.Refusal.{Refusal}
use Rattle.layout.specs.Refusals.{cut_entry, uncounted}
use Rattle.journal.specs.Read.{Read, refused, got}
use Rattle.journal.specs.Entries.{Entry, EntriesOk, entry_bytes, journal_bytes, read_entry, longest}
use Rattle.journal.specs.Journal.{Walked, stopped, ended, on_count, on_entry, walk_for, walk, joined, read_journal, count_all}
use Rattle.journal.specs.Statements.{Bytes, Grows, Takes, Stopped, ReadsBack, OneJournal, StopsThere}
use Rattle.journal.proofs.Says.{Says}
use Rattle.journal.proofs.Bytes.{bytes_rest}
use Rattle.journal.proofs.Entries.{read_entry_law, EntryIs, entry_says}
use Rattle.journal.proofs.Behind.{entry_grows, entry_takes}

-- a walk that goes on where another ended
abbrev pub then_walk : {S : Type 0} → Walked S → (S → Walked S) → Walked S
then_walk (stopped n at) go = stopped n at
then_walk (ended y) go = go y

module _ {S : Type 0} (count : S → Entry → Option S) where
  -- any number of entries that is large enough
  walk_any : (n m at : ℕ) (x : S) (l : List ℕ) → length l ≤ n → length l ≤ m → walk_for count n at x l ≡ walk_for count m at x l
  unfolding walk_for
  walk_any zero zero at x l h k = refl
  walk_any zero (suc m) at x [] h k = refl
  walk_any zero (suc m) at x (b ∷ l) h k = absurd (not-suc-le-zero h)
  walk_any (suc n) zero at x [] h k = refl
  walk_any (suc n) zero at x (b ∷ l) h k = absurd (not-suc-le-zero k)
  walk_any (suc n) (suc m) at x [] h k = refl
  walk_any (suc n) (suc m) at x (b ∷ l) h k = same (read_entry (b ∷ l)) (entry_takes (b ∷ l)) (λ a y rest. walk_any n m a y rest)
    where
      counted : (a : ℕ) (rest : List ℕ) (o : Option S) → ((y : S) → walk_for count n a y rest ≡ walk_for count m a y rest)
          → on_count at o (λ y. walk_for count n a y rest) ≡ on_count at o (λ y. walk_for count m a y rest)
      counted a rest none go = refl
      counted a rest (some y) go = go y

      same : (r : Read Entry) → Takes 1 longest (b ∷ l) r
          → ((a : ℕ) (y : S) (rest : List ℕ) → length rest ≤ n → length rest ≤ m → walk_for count n a y rest ≡ walk_for count m a y rest)
          → on_entry count at x (b ∷ l) r (λ a y rest. walk_for count n a y rest) ≡ on_entry count at x (b ∷ l) r (λ a y rest. walk_for count m a y rest)
      same (refused i) t go = refl
      same (got e rest) t go =
          let p : suc (length l) ≤ suc n = h in
          let q : suc (length l) ≤ suc m = k in
          let u : 1 + length rest ≤ suc (length l) = t.0 in
          counted (at + (length (b ∷ l) - length rest)) rest (count x e) (λ y. go (at + (length (b ∷ l) - length rest)) y rest (omega arith) (omega arith))

  -- ---- one step of a walk, by what is read there

  pub walk_end : (at : ℕ) (x : S) → walk count at x [] ≡ ended x
  unfolding walk walk_for
  walk_end at x = refl

  pub walk_got : (at : ℕ) (x : S) (l : List ℕ) (e : Entry) (rest : List ℕ) (y : S) → read_entry l ≡ got e rest → count x e ≡ some y
      → walk count at x l ≡ walk count (at + (length l - length rest)) y rest
  unfolding walk walk_for
  walk_got at x [] e rest y h c =
      let t : Takes 1 longest [] (got e rest) = rw h at (entry_takes []) in
      absurd (omega (arith, t.0))
  walk_got at x (b ∷ l) e rest y h c =
      let t : Takes 1 longest (b ∷ l) (got e rest) = rw h at (entry_takes (b ∷ l)) in
      let u : 1 + length rest ≤ suc (length l) = t.0 in
      rw (h, c) (walk_any (length l) (length rest) (at + (suc (length l) - length rest)) y rest (omega arith) (omega arith))

  pub walk_uncounted : (at : ℕ) (x : S) (l : List ℕ) (e : Entry) (rest : List ℕ) → read_entry l ≡ got e rest → count x e ≡ none
      → walk count at x l ≡ stopped uncounted at
  unfolding walk walk_for
  walk_uncounted at x [] e rest h c =
      let t : Takes 1 longest [] (got e rest) = rw h at (entry_takes []) in
      absurd (omega (arith, t.0))
  walk_uncounted at x (b ∷ l) e rest h c = rw (h, c)

  pub walk_refused : (at : ℕ) (x : S) (l : List ℕ) (n : Refusal) → 0 < length l → read_entry l ≡ refused n → walk count at x l ≡ stopped n at
  unfolding walk walk_for
  walk_refused at x [] n k h = absurd (not-suc-le-zero k)
  walk_refused at x (b ∷ l) n k h = rw h

  -- ---- a journal that comes in pieces: what is decided of its first bytes is decided, whatever follows

  pub piece_got : (at : ℕ) (x : S) (l m : List ℕ) (e : Entry) (rest : List ℕ) (y : S) → read_entry l ≡ got e rest → count x e ≡ some y
      → walk count at x (l ++ m) ≡ walk count (at + (length l - length rest)) y (rest ++ m)
  piece_got at x l m e rest y h c =
      let g : read_entry (l ++ m) ≡ got e (rest ++ m) = rw h at (entry_grows m l) in
      let d : length (l ++ m) - length (rest ++ m) ≡ length l - length rest = omega (arith, length-append l m, length-append rest m) in
      walk_got at x (l ++ m) e (rest ++ m) y g c ∙ ap (λ (k : ℕ). walk count (at + k) y (rest ++ m)) d

  pub piece_uncounted : (at : ℕ) (x : S) (l m : List ℕ) (e : Entry) (rest : List ℕ) → read_entry l ≡ got e rest → count x e ≡ none
      → walk count at x (l ++ m) ≡ stopped uncounted at
  piece_uncounted at x l m e rest h c = walk_uncounted at x (l ++ m) e (rest ++ m) (rw h at (entry_grows m l)) c

  pub piece_refused : (at : ℕ) (x : S) (l m : List ℕ) (n : Refusal) → 0 < length l → read_entry l ≡ refused n → (n ≡ cut_entry → ⊥)
      → walk count at x (l ++ m) ≡ stopped n at
  piece_refused at x l m n k h ne =
      let g : Grows m (refused n) (read_entry (l ++ m)) = rw h at (entry_grows m l) in
      walk_refused at x (l ++ m) n (omega (arith, length-append l m)) (g ne)

  -- ---- a journal of a list of entries, and bytes behind it

  pub walk_through : (es : List Entry) (rest : List ℕ) (at : ℕ) (x : S) → EntriesOk es
      → walk count at x (journal_bytes es ++ rest) ≡ then_walk (count_all count at x es) (λ y. walk count (at + length (journal_bytes es)) y rest)
  walk_through [] rest at x h = rw add-zero
  walk_through (e ∷ es) rest at x h =
      ap (walk count at x) (append_assoc (entry_bytes e) (journal_bytes es) rest) ∙ by_count (count x e) refl (λ y. walk_through es rest (at + length (entry_bytes e)) y h.1)
    where
      by_count : (o : Option S) → count x e ≡ o
          → ((y : S) → walk count (at + length (entry_bytes e)) y (journal_bytes es ++ rest)
          ≡ then_walk (count_all count (at + length (entry_bytes e)) y es) (λ z. walk count (at + length (entry_bytes e) + length (journal_bytes es)) z rest))
          → walk count at x (entry_bytes e ++ (journal_bytes es ++ rest))
          ≡ then_walk (on_count at o (λ y. count_all count (at + length (entry_bytes e)) y es)) (λ y. walk count (at + length (entry_bytes e ++ journal_bytes es)) y rest)
      by_count none c go = walk_uncounted at x (entry_bytes e ++ (journal_bytes es ++ rest)) e (journal_bytes es ++ rest) (read_entry_law e (journal_bytes es ++ rest) h.0) c
      by_count (some y) c go =
          let d : length (entry_bytes e ++ (journal_bytes es ++ rest)) - length (journal_bytes es ++ rest) ≡ length (entry_bytes e) = omega (arith, length-append (entry_bytes e) (journal_bytes es ++ rest)) in
          let a : at + length (entry_bytes e) + length (journal_bytes es) ≡ at + length (entry_bytes e ++ journal_bytes es) = omega (arith, length-append (entry_bytes e) (journal_bytes es)) in
          walk_got at x (entry_bytes e ++ (journal_bytes es ++ rest)) e (journal_bytes es ++ rest) y (read_entry_law e (journal_bytes es ++ rest) h.0) c
          ∙ ap (λ (k : ℕ). walk count (at + k) y (journal_bytes es ++ rest)) d
          ∙ go y
          ∙ ap (λ (k : ℕ). then_walk (count_all count (at + length (entry_bytes e)) y es) (λ z. walk count k z rest)) a

  pub walk_journal : (es : List Entry) (at : ℕ) (x : S) → EntriesOk es → walk count at x (journal_bytes es) ≡ count_all count at x es
  walk_journal es at x h = ap (walk count at x) (sym (append-nil (journal_bytes es))) ∙ walk_through es [] at x h ∙ ends (count_all count at x es)
    where
      ends : (r : Walked S) → then_walk r (λ y. walk count (at + length (journal_bytes es)) y []) ≡ r
      ends (stopped n i) = refl
      ends (ended y) = walk_end (at + length (journal_bytes es)) y

-- ---- the entries of a journal

joined_all : (es acc : List Entry) (at : ℕ) → count_all joined at acc es ≡ ended (acc ++ es)
joined_all [] acc at = ap {B = Walked (List Entry)} ended (sym (append-nil acc))
joined_all (e ∷ es) acc at =
    joined_all es (acc ++ (e ∷ [])) (at + length (entry_bytes e)) ∙ ap {B = Walked (List Entry)} ended (append_assoc acc (e ∷ []) es)

pub read_journal_law : ReadsBack
read_journal_law es h = walk_journal joined es 0 [] h ∙ joined_all es [] 0

-- where a walk from `acc` ends: behind entries more, whose bytes are those walked
record Ended (acc : List Entry) (l : List ℕ) (es : List Entry) : Type 0 where
  more : List Entry
  all : es ≡ acc ++ more
  bytes : journal_bytes more ≡ l
  fine : EntriesOk more

-- what a walk from `acc` and an offset says of the bytes
abbrev Walks : List Entry → ℕ → List ℕ → Walked (List Entry) → Type 0
Walks acc at l (stopped n i) = (k : ℕ) × (i ≡ at + k) × Stopped l n k
Walks acc at l (ended es) = Ended acc l es

-- the same of one entry more in front
walks_more : (acc : List Entry) (at : ℕ) (e : Entry) (rest l : List ℕ) (r : Walked (List Entry)) → EntryIs l e rest
    → Walks (acc ++ (e ∷ [])) (at + (length l - length rest)) rest r → Walks acc at l r
walks_more acc at e rest l (stopped n i) p h =
    let x = h.2 in
    let b = journal_bytes x.before in (
      length (entry_bytes e) + h.0,
      omega (arith, h.1, ap length p.0, length-append (entry_bytes e) rest),
      record {
        before = e ∷ x.before;
        rest = x.rest;
        split = sym p.0 ∙ ap (λ (t : List ℕ). entry_bytes e ++ t) x.split ∙ sym (append_assoc (entry_bytes e) b x.rest);
        fine = (p.1, x.fine);
        there = omega (arith, x.there, length-append (entry_bytes e) b);
        more = x.more;
        refusal = x.refusal;
      },
    )
walks_more acc at e rest l (ended es) p h =
    record {
      more = e ∷ h.more;
      all = h.all ∙ append_assoc acc (e ∷ []) h.more;
      bytes = ap (λ (t : List ℕ). entry_bytes e ++ t) h.bytes ∙ p.0;
      fine = (p.1, h.fine);
    }

walks : (n at : ℕ) (acc : List Entry) (l : List ℕ) → length l ≤ n → Bytes l → Walks acc at l (walk_for joined n at acc l)
unfolding walk_for
walks zero at acc [] h s = record { more = []; all = sym (append-nil acc); bytes = refl; fine = tt }
walks zero at acc (b ∷ l) h s = absurd (not-suc-le-zero h)
walks (suc n) at acc [] h s = record { more = []; all = sym (append-nil acc); bytes = refl; fine = tt }
walks (suc n) at acc (b ∷ l) h s =
    onward (read_entry (b ∷ l)) refl (entry_says (b ∷ l) s) (entry_takes (b ∷ l)) (λ a es rest. walks n a es rest)
  where
    onward : (r : Read Entry) → read_entry (b ∷ l) ≡ r → Says (EntryIs (b ∷ l)) r → Takes 1 longest (b ∷ l) r
        → ((a : ℕ) (es : List Entry) (rest : List ℕ) → length rest ≤ n → Bytes rest → Walks es a rest (walk_for joined n a es rest))
        → Walks acc at (b ∷ l) (on_entry joined at acc (b ∷ l) r (λ a y rest. walk_for joined n a y rest))
    onward (refused i) e p t go = (0, omega arith, record { before = []; rest = b ∷ l; split = refl; fine = tt; there = refl; more = omega arith; refusal = e })
    onward (got e rest) g p t go =
        let q : suc (length l) ≤ suc n = h in
        let u : 1 + length rest ≤ suc (length l) = t.0 in
        let a = at + (length (b ∷ l) - length rest) in
        walks_more acc at e rest (b ∷ l) (walk_for joined n a (acc ++ (e ∷ [])) rest) p
        (go a (acc ++ (e ∷ [])) rest (omega arith) (bytes_rest (entry_bytes e) rest (b ∷ l) p.0 s))

journal_walks : (l : List ℕ) → Bytes l → Walks [] 0 l (read_journal l)
unfolding walk
journal_walks l s = walks (length l) 0 [] l (omega arith) s

pub one_journal : OneJournal
one_journal l es s = (λ h. whole (rw h at (journal_walks l s)), λ p. rw p.0 (read_journal_law es p.1))
  where
    whole : Ended [] l es → (l ≡ journal_bytes es) × EntriesOk es
    whole w = (sym (ap journal_bytes w.all ∙ w.bytes), rw w.all w.fine)

pub stops_there : StopsThere
stops_there l n i s = (λ h. placed (rw h at (journal_walks l s)), stops)
  where
    placed : (k : ℕ) × (i ≡ 0 + k) × Stopped l n k → Stopped l n i
    placed p = let e : i ≡ p.0 = omega (arith, p.1) in rw e p.2

    stops : Stopped l n i → read_journal l ≡ stopped n i
    stops x =
        ap read_journal x.split
        ∙ walk_through joined x.before x.rest 0 [] x.fine
        ∙ ap (λ (r : Walked (List Entry)). then_walk r (λ y. walk joined (0 + length (journal_bytes x.before)) y x.rest)) (joined_all x.before [] 0)
        ∙ walk_refused joined (0 + length (journal_bytes x.before)) x.before x.rest n x.more x.refusal
        ∙ ap (stopped n) (let e : 0 + length (journal_bytes x.before) ≡ i = omega (arith, x.there) in e)
