-- A whole journal, entry by entry (document 02, §3). Assumes nothing.
use Rattle.std.specs.Prelude.{ℕ, zero, suc, ◌+◌, ◌-◌, List, [], ◌∷◌, ◌++◌, length}
use Rattle.std.proofs.Math.Option.{Option, none, some}
use Rattle.journal.specs.Read.{Read, refused, got}
use Rattle.journal.specs.Entries.{Entry, entry_bytes, read_entry}
use Rattle.layout.specs.declared.refusals.Refusal.{Refusal}
use Rattle.layout.specs.declared.refusals.Refusal.TheVariants.{Uncounted}

-- "Refusals, with the entry's offset in the journal"; or what the entries came to
pub data Walked (S : Type 0) : Type 0 where
  stopped : (refusal : Refusal) (offset : ℕ) → Walked S
  ended : S → Walked S

-- an entry at an offset that counts, or does not; behind it the walk goes on
abbrev pub on_count : {S : Type 0} → ℕ → Option S → (S → Walked S) → Walked S
on_count at none go = stopped Uncounted at
on_count at (some y) go = go y

-- "Entry by entry, form first"
abbrev pub on_entry : {S : Type 0} → (S → Entry → Option S) → ℕ → S → List ℕ → Read Entry → (ℕ → S → List ℕ → Walked S) → Walked S
on_entry count at x l (refused n) go = stopped n at
on_entry count at x l (got e rest) go = on_count at (count x e) (λ y. go (at + (length l - length rest)) y rest)

-- at most n entries from an offset on: `count` says what an entry makes of x, or that it does not count there
unfoldable pub walk_for : {S : Type 0} → (S → Entry → Option S) → ℕ → ℕ → S → List ℕ → Walked S
walk_for count zero at x l = ended x
walk_for count (suc n) at x [] = ended x
walk_for count (suc n) at x (k ∷ l) = on_entry count at x (k ∷ l) (read_entry (k ∷ l)) (λ a y rest. walk_for count n a y rest)

-- every entry has a byte, so there are at most as many as bytes
unfoldable pub walk : {S : Type 0} → (S → Entry → Option S) → ℕ → S → List ℕ → Walked S
walk count at x l = walk_for count (length l) at x l

-- the entries of a journal: every one counts
abbrev pub joined : List Entry → Entry → Option (List Entry)
joined es e = some (es ++ (e ∷ []))

abbrev pub read_journal : List ℕ → Walked (List Entry)
read_journal l = walk joined 0 [] l

-- the same of a list of entries: what each is refused for is where its bytes begin
abbrev pub count_all : {S : Type 0} → (S → Entry → Option S) → ℕ → S → List Entry → Walked S
count_all count at x [] = ended x
count_all count at x (e ∷ es) = on_count at (count x e) (λ y. count_all count (at + length (entry_bytes e)) y es)
