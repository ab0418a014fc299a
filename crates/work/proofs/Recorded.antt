-- An entry's taking by its tests: stores left, nothing to store, an entry. A work and its parts that an entry tells have one entry. Assumes nothing.
use Prim.Native.Nat.{ℕ}
use mathlib.Core.Path.{◌≡◌, refl, sym, ap, ◌∙◌}
use mathlib.Core.Bool.{Bool, true, false, cond}
use mathlib.Core.List.{List, [], ◌∷◌, append-nil}
use native.Mathlib.Omega.{arith}
use borrow.Author.Tests.{le-ltb}
use lib.Dec.{eqb}
use lib.ListN.{length}
use Rattle.std.proofs.Common.{Result, Ok, Err}
use Rattle.layout.specs.declared.refusals.Refusal.{Refusal}
use Rattle.layout.specs.declared.refusals.Refusal.TheVariants.{WrongImage, StoresLeft}
use Rattle.layout.specs.Numbers.{refusal_number, told_number}
use Rattle.table.specs.Table.{number_of, index_ok}
use Rattle.table.specs.declared.Kind.{Kind}
use Rattle.table.specs.declared.Kind.TheVariants.{Nothing, Disabling, Stash, Update, ColdBoot, Extension, Derive, Replace, Extend, Rotate, Destroy}
use Rattle.table.proofs.ByKind.{destroy_count, number_destroy}
use Rattle.journal.specs.Entries.{Entry, entry_bytes}
use Rattle.journal_bytes.specs.Results.{taken_given, taken_number, taken_result, taken_buffer}
use Rattle.work.specs.Entries.{well_shaped, finished}
use Rattle.work.specs.Parts.{standing, recording}
use Rattle.work.specs.Recorded.{entries_for, entries_of, recorded_bytes, entry_given, entry_number, entry_result, entry_buffer}
use Rattle.work.specs.declared.Work.{Work}

-- a destroy has its two marks to store
destroys : (count : ℕ) (node : List ℕ) → index_ok (Destroy count) node ≡ true → number_of (Destroy count) ≡ 0 → ⊥
destroys count node i h = omega (arith, number_destroy count (destroy_count count node i))

-- a kind with nothing to store has no entry; of more nodes than there are, which have no stores, no work is well shaped
pub no_stores : (k : Kind) (node inputs : List ℕ) → index_ok k node ≡ true → number_of k ≡ 0 → entries_for k node inputs ≡ []
unfolding number_of entries_for
no_stores Nothing node inputs i h = refl
no_stores Disabling node inputs i h = absurd (omega arith)
no_stores (Stash at) node inputs i h = absurd (omega arith)
no_stores (Update root) node inputs i h = absurd (omega arith)
no_stores ColdBoot node inputs i h = absurd (omega arith)
no_stores (Extension r) node inputs i h = absurd (omega arith)
no_stores (Derive x) node inputs i h = absurd (omega arith)
no_stores (Replace at) node inputs i h = absurd (omega arith)
no_stores (Extend x) node inputs i h = absurd (omega arith)
no_stores (Rotate x) node inputs i h = absurd (omega arith)
no_stores (Destroy count) node inputs i h = absurd (destroys count node i h)

-- no refusal has the number of success
pub some_number : (r : Refusal) → refusal_number r ≡ 0 → ⊥
some_number WrongImage e = omega arith
some_number _ e = omega arith

-- what is answered has the entry's number
pub entry_told : (w : Work) (buffer : List ℕ) → told_number (entry_result w buffer) ≡ entry_number w (length buffer)
unfolding entry_given entry_number entry_result
entry_told w buffer = refl

-- ---- one answer for each test

abbrev takes : Result ℕ Refusal → List ℕ → Work → List ℕ → Type 0
takes r after w buffer = (r ≡ entry_result w buffer) × (after ≡ entry_buffer w buffer)

module _ (w : Work) (buffer : List ℕ) where
  pub entry_early : finished w ≡ false → takes (Err StoresLeft) buffer w buffer
  unfolding entry_given entry_result entry_buffer entry_number
  entry_early h = rw h (refl, refl)

  module _ (done : finished w ≡ true) where
    -- what is taken are the entry's bytes
    taken : (taken_result (recorded_bytes w) buffer ≡ entry_result w buffer) × (taken_buffer (recorded_bytes w) buffer ≡ entry_buffer w buffer)
    unfolding entry_given entry_result entry_buffer entry_number taken_given taken_number taken_result taken_buffer
    taken = rw done (refl, twice (eqb (taken_number (recorded_bytes w) (length buffer)) 0) _ buffer)
      where
        twice : (t : Bool) (x y : List ℕ) → cond t x y ≡ cond t (cond t x y) y
        twice true x y = refl
        twice false x y = refl

    pub entry_none : entries_of w ≡ [] → takes (Ok 0) buffer w buffer
    unfolding taken_given taken_result taken_buffer taken_number
    entry_none e =
        let none : (taken_result [] buffer ≡ Ok 0) × (taken_buffer [] buffer ≡ buffer) = rw (le-ltb (length buffer) 0 (omega arith)) (refl, refl) in
        (sym none.0 ∙ rw e at taken.0, sym none.1 ∙ rw e at taken.1)

    pub entry_one : (e : Entry) → entries_of w ≡ e ∷ [] → takes (taken_result (entry_bytes e) buffer) (taken_buffer (entry_bytes e) buffer) w buffer
    entry_one e h =
        let p : recorded_bytes w ≡ entry_bytes e = rw h (append-nil (entry_bytes e)) in
        (ap (λ (l : List ℕ). taken_result l buffer) (sym p) ∙ taken.0, ap (λ (l : List ℕ). taken_buffer l buffer) (sym p) ∙ taken.1)

-- ---- the parts

pub finished_recording : (k : Kind) (p n : ℕ) (node inputs : List ℕ) → finished (standing k p n node) ≡ finished (recording k p n node inputs)
unfolding finished well_shaped
finished_recording k p n node inputs = refl

abbrev pub recording_of : Work → Work
recording_of w = recording w.kind w.position w.answer_len w.node w.inputs

pub result_recording : (w : Work) (buffer : List ℕ) → entry_result (recording_of w) buffer ≡ entry_result w buffer
unfolding entry_given entry_result finished well_shaped entries_of
result_recording w buffer = refl

pub buffer_recording : (w : Work) (buffer : List ℕ) → entry_buffer (recording_of w) buffer ≡ entry_buffer w buffer
unfolding entry_given entry_buffer entry_number finished well_shaped entries_of
buffer_recording w buffer = refl
