-- A journal that replay accepts is the bytes of a list of entries. Assumes nothing.
use Prim.Native.Nat.{ℕ, zero, suc, ◌+◌, ◌-◌, ◌≤◌}
use mathlib.Core.Path.{◌≡◌, refl, ap, ◌∙◌}
use mathlib.Core.List.{List, [], ◌∷◌, ◌++◌}
use mathlib.Core.Option.{Option, none, some}
use native.Mathlib.Omega.{arith}
use native.Mathlib.Nat.{not-suc-le-zero}
use lib.ListN.{length}
use Rattle.journal.specs.Read.{Read, refused, got}
use Rattle.journal.specs.Entries.{Entry, EntriesOk, entry_bytes, journal_bytes, read_entry, longest}
use Rattle.journal.specs.Journal.{Walked, stopped, ended, on_count, on_entry, walk_for, walk}
use Rattle.journal.specs.Statements.{Bytes, Takes}
use Rattle.journal.proofs.Says.{Says}
use Rattle.journal.proofs.Bytes.{bytes_rest}
use Rattle.journal.proofs.Entries.{EntryIs, entry_says}
use Rattle.journal.proofs.Behind.{entry_takes}

-- what holds of a walk that ended
abbrev Ends : {S : Type 0} → (S → Type 0) → Walked S → Type 0
Ends P (stopped n at) = Unit {0}
Ends P (ended x) = P x

abbrev Written : List ℕ → Type 0
Written l = (es : List Entry) × (journal_bytes es ≡ l) × EntriesOk es

module _ {S : Type 0} (count : S → Entry → Option S) where
  one_more : (e : Entry) (rest l : List ℕ) (r : Walked S) → EntryIs l e rest → Ends (λ (y : S). Written rest) r → Ends (λ (y : S). Written l) r
  one_more e rest l (stopped n at) p h = tt
  one_more e rest l (ended y) p h = (e ∷ h.0, ap (λ (t : List ℕ). entry_bytes e ++ t) h.1 ∙ p.0, (p.1, h.2))

  walk_says : (n at : ℕ) (x : S) (l : List ℕ) → length l ≤ n → Bytes l → Ends (λ (y : S). Written l) (walk_for count n at x l)
  unfolding walk_for
  walk_says zero at x [] h s = ([], refl, tt)
  walk_says zero at x (b ∷ l) h s = absurd (not-suc-le-zero h)
  walk_says (suc n) at x [] h s = ([], refl, tt)
  walk_says (suc n) at x (b ∷ l) h s =
      onward (read_entry (b ∷ l)) (entry_says (b ∷ l) s) (entry_takes (b ∷ l)) (λ a y rest. walk_says n a y rest)
    where
      counted : (a : ℕ) (rest : List ℕ) (o : Option S) (e : Entry) → EntryIs (b ∷ l) e rest
          → ((y : S) → Ends (λ (y : S). Written rest) (walk_for count n a y rest))
          → Ends (λ (y : S). Written (b ∷ l)) (on_count at o (λ y. walk_for count n a y rest))
      counted a rest none e p go = tt
      counted a rest (some y) e p go = one_more e rest (b ∷ l) (walk_for count n a y rest) p (go y)

      onward : (r : Read Entry) → Says (EntryIs (b ∷ l)) r → Takes 1 longest (b ∷ l) r
          → ((a : ℕ) (y : S) (rest : List ℕ) → length rest ≤ n → Bytes rest → Ends (λ (y : S). Written rest) (walk_for count n a y rest))
          → Ends (λ (y : S). Written (b ∷ l)) (on_entry count at x (b ∷ l) r (λ a y rest. walk_for count n a y rest))
      onward (refused i) p t go = tt
      onward (got e rest) p t go =
          let q : suc (length l) ≤ suc n = h in
          let u : 1 + length rest ≤ suc (length l) = t.0 in
          counted (at + (length (b ∷ l) - length rest)) rest (count x e) e p
          (λ y. go (at + (length (b ∷ l) - length rest)) y rest (omega arith) (bytes_rest (entry_bytes e) rest (b ∷ l) p.0 s))

  pub walk_written : (at : ℕ) (x y : S) (l : List ℕ) → Bytes l → walk count at x l ≡ ended y → Written l
  unfolding walk
  walk_written at x y l s h = rw h at (walk_says (length l) at x l (omega arith) s)
