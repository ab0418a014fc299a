-- The laws that go by the kind of work, the only ones below demand 3: one case each in six places, and what follows for any kind. Assumes nothing.
use Prim.Native.Nat.{ℕ, ◌+◌, ◌*◌, ◌≤◌, ◌<◌}
use mathlib.Core.Path.{◌≡◌, refl}
use mathlib.Core.Logic.{◌⊎◌, inl, inr}
use mathlib.Core.Bool.{Bool, true, false, cond, ◌&&◌}
use mathlib.Core.List.{List, [], ◌∷◌, ◌++◌}
use native.Mathlib.Omega.{arith}
use native.Mathlib.Decide.{dec_lt}
use borrow.Author.Tests.{ltb-true, ltb-false, leb-true, lt-ltb, le-leb, lt-leb, ne_eqb}
use lib.Dec.{ltb, leb}
use lib.ListN.{get_or, drop}
use Rattle.layout.specs.Sizes.{extend_last, node_count, node_words, register_words, handle_words, handle_at, current_at, image_words, mark_at}
use Rattle.layout.specs.Below.{all_below}
use Rattle.layout.proofs.Cases.{and_left, and_right}
use Rattle.layout.proofs.Extendable.{extendable_to}
use Rattle.table.specs.Table.{Run, one, clear, disabling_runs, stash_runs, update_runs, cold_runs, extension_runs, part_runs, replace_runs, runs_for, total, put_from, number_of, index_ok, store_at}
use Rattle.table.specs.Coding.{coded_of, kind_count, is_kind, kind_of}
use Rattle.table.specs.declared.Kind.{Kind}
use Rattle.table.specs.declared.Kind.TheVariants.{Nothing, Disabling, Stash, Update, ColdBoot, Extension, Derive, Replace, Extend, Rotate, Destroy}
use Rattle.table.specs.declared.StashAt.{StashAt}
use Rattle.table.specs.declared.Put.{Put}
use Rattle.table.specs.declared.coding.Coded.{Coded}

-- ---- how many stores

-- a work of no stores, by computation
number_nothing : number_of Nothing ≡ 0
unfolding number_of
number_nothing = refl

-- a destroy of as many nodes as there are or fewer, and of more
pub number_destroy : (count : ℕ) → count ≤ node_count → number_of (Destroy count) ≡ 2 + node_words * count
unfolding number_of
number_destroy count h = rw (le-leb count node_count h) (omega arith)

pub number_destroy_none : (count : ℕ) → node_count < count → number_of (Destroy count) ≡ 0
unfolding number_of
number_destroy_none count h = rw (lt-leb count node_count h)

destroy_most : (count : ℕ) → number_of (Destroy count) ≤ image_words + 1
destroy_most count =
    elim (dec_lt node_count count) [ yes h ↦ omega (arith, number_destroy_none count h) | no h ↦ omega (arith, number_destroy count (omega arith)) ]

-- none has more stores than a cold boot
pub number_most : (k : Kind) → number_of k ≤ image_words + 1
unfolding number_of
number_most Nothing = omega arith
number_most Disabling = omega arith
number_most (Stash s) = omega arith
number_most (Update root) = omega arith
number_most ColdBoot = omega arith
number_most (Extension r) = omega arith
number_most (Derive i) = omega arith
number_most (Replace s) = omega arith
number_most (Extend i) = omega arith
number_most (Rotate i) = omega arith
number_most (Destroy count) = destroy_most count

-- they are as many whatever the prepared words
pub number_row : (k : Kind) (r j n s : List ℕ) → total (runs_for k r j n s) ≡ number_of k
unfolding number_of
number_row Nothing r j n s = refl
number_row Disabling r j n s = refl
number_row (Stash at) r j n s = refl
number_row (Update root) r j n s = refl
number_row ColdBoot r j n s = refl
number_row (Extension x) r j n s = refl
number_row (Derive i) r j n s = refl
number_row (Replace at) r j n s = refl
number_row (Extend i) r j n s = refl
number_row (Rotate i) r j n s = refl
number_row (Destroy count) r j n s = by_test (leb count node_count)
  where
    row : List ℕ → List Run
    row freed = one mark_at 0 ∷ clear count freed ∷ one mark_at 1 ∷ []

    by_test : (b : Bool) → total (cond b (row n) []) ≡ total (cond b (row []) [])
    by_test true = refl
    by_test false = refl

-- ---- what each row of the table may take for granted of its indices

-- the two nodes of a stash or of a child that replaces its parent
abbrev Both : StashAt → Type 0
Both s = (s.node < node_count) × (s.holder < node_count)

abbrev pub Within : Kind → (node : List ℕ) → Type 0
Within Nothing node = Unit {0}
Within Disabling node = Unit {0}
Within (Stash s) node = Both s
Within (Update root) node = root < node_count
Within ColdBoot node = Unit {0}
Within (Extension r) node = r ≤ extend_last
Within (Derive i) node = i < node_count
Within (Replace s) node = Both s
Within (Extend i) node = i < node_count
Within (Rotate i) node = i < node_count
Within (Destroy count) node = (count ≤ node_count) × (all_below count (λ j. ltb (get_or node j 0) node_count) ≡ true)

both : (s : StashAt) → (ltb s.node node_count && ltb s.holder node_count) ≡ true → Both s
both s h = (
  ltb-true s.node node_count (and_left (ltb s.node node_count) (ltb s.holder node_count) h),
  ltb-true s.holder node_count (and_right (ltb s.node node_count) (ltb s.holder node_count) h),
)

-- a destroy whose indices are fine frees no more nodes than there are
pub destroy_count : (count : ℕ) (node : List ℕ) → index_ok (Destroy count) node ≡ true → count ≤ node_count
unfolding index_ok
destroy_count count node i = leb-true count node_count (and_left (leb count node_count) (all_below count (λ j. ltb (get_or node j 0) node_count)) i)

pub within : (kind : Kind) (node : List ℕ) → index_ok kind node ≡ true → Within kind node
unfolding index_ok
within Nothing node i = tt
within Disabling node i = tt
within (Stash s) node i = both s i
within (Update root) node i = ltb-true root node_count i
within ColdBoot node i = tt
within (Extension r) node i = extendable_to r i
within (Derive x) node i = ltb-true x node_count i
within (Replace s) node i = both s i
within (Extend x) node i = ltb-true x node_count i
within (Rotate x) node i = ltb-true x node_count i
within (Destroy count) node i =
    (destroy_count count node i, and_right (leb count node_count) (all_below count (λ j. ltb (get_or node j 0) node_count)) i)

-- ---- mark 0 first, mark 1 last, and no store of the mark between them

abbrev pub EveryRun : (Put → Type 0) → List Run → Type 0
EveryRun P [] = Unit {0}
EveryRun P (r ∷ rs) = ((i : ℕ) → P (r.store i)) × EveryRun P rs

-- a store that leaves the mark alone
abbrev pub PastMark : Put → Type 0
PastMark p = mark_at < p.address

pub record Bracketed (rs : List Run) : Type 0 where
  pub inner : List Run
  pub past : EveryRun PastMark inner
  pub same : rs ≡ one mark_at 0 ∷ (inner ++ (one mark_at 1 ∷ []))

-- all runs but the last
abbrev inner : List Run → List Run
inner [] = []
inner (r ∷ []) = []
inner (r ∷ s ∷ rs) = r ∷ inner (s ∷ rs)

part_bracketed : (i from words : ℕ) (node : List ℕ) → Bracketed (part_runs i from words node)
part_bracketed i from words node = record { inner = inner (drop 1 (part_runs i from words node)); past = search arith; same = refl }

pub bracketed : (k : Kind) (r j n s : List ℕ) → (runs_for k r j n s ≡ []) ⊎ Bracketed (runs_for k r j n s)
bracketed Nothing r j n s = inl refl
bracketed Disabling r j n s = inr (record { inner = inner (drop 1 disabling_runs); past = search arith; same = refl })
bracketed (Stash at) r j n s = inr (record { inner = inner (drop 1 (stash_runs at r n)); past = search arith; same = refl })
bracketed (Update root) r j n s = inr (record { inner = inner (drop 1 (update_runs root r j n s)); past = search arith; same = refl })
bracketed ColdBoot r j n s = inr (record { inner = inner (drop 1 (cold_runs r j n s)); past = search arith; same = refl })
bracketed (Extension x) r j n s = inr (record { inner = inner (drop 1 (extension_runs x r)); past = search arith; same = refl })
bracketed (Derive i) r j n s = inr (part_bracketed i 0 node_words n)
bracketed (Replace at) r j n s = inr (record { inner = inner (drop 1 (replace_runs at n)); past = search arith; same = refl })
bracketed (Extend i) r j n s = inr (part_bracketed i current_at (2 * register_words) n)
bracketed (Rotate i) r j n s = inr (part_bracketed i handle_at handle_words n)
bracketed (Destroy count) r j n s = by_test (leb count node_count)
  where
    row : List Run
    row = one mark_at 0 ∷ clear count n ∷ one mark_at 1 ∷ []

    by_test : (b : Bool) → (cond b row [] ≡ []) ⊎ Bracketed (cond b row [])
    by_test true = inr (record { inner = clear count n ∷ []; past = search arith; same = refl })
    by_test false = inl refl

-- ---- a kind as numbers

-- read back it is the same kind
pub kind_back : (k : Kind) → kind_of (coded_of k) ≡ k
unfolding kind_of coded_of
kind_back Nothing = refl
kind_back Disabling = refl
kind_back (Stash at) = refl
kind_back (Update root) = refl
kind_back ColdBoot = refl
kind_back (Extension r) = refl
kind_back (Derive i) = refl
kind_back (Replace at) = refl
kind_back (Extend i) = refl
kind_back (Rotate i) = refl
kind_back (Destroy count) = refl

-- its number is a kind's
pub coded_kind : (k : Kind) → is_kind (coded_of k).number ≡ true
unfolding is_kind coded_of
coded_kind Nothing = refl
coded_kind Disabling = refl
coded_kind (Stash at) = refl
coded_kind (Update root) = refl
coded_kind ColdBoot = refl
coded_kind (Extension r) = refl
coded_kind (Derive i) = refl
coded_kind (Replace at) = refl
coded_kind (Extend i) = refl
coded_kind (Rotate i) = refl
coded_kind (Destroy count) = refl

-- a number that is no kind's has no stores
pub no_kind : (c : Coded) → is_kind c.number ≡ false → number_of (kind_of c) ≡ 0
unfolding is_kind kind_of
no_kind c h =
    let b = ltb-false c.number kind_count h in
    rw (
      ne_eqb c.number 1 (λ e. omega (arith, e, b)),
      ne_eqb c.number 2 (λ e. omega (arith, e, b)),
      ne_eqb c.number 3 (λ e. omega (arith, e, b)),
      ne_eqb c.number 4 (λ e. omega (arith, e, b)),
      ne_eqb c.number 5 (λ e. omega (arith, e, b)),
      ne_eqb c.number 6 (λ e. omega (arith, e, b)),
      ne_eqb c.number 7 (λ e. omega (arith, e, b)),
      ne_eqb c.number 8 (λ e. omega (arith, e, b)),
      ne_eqb c.number 9 (λ e. omega (arith, e, b)),
      ne_eqb c.number 10 (λ e. omega (arith, e, b)),
    ) number_nothing

-- ---- of any kind

-- a store that there is, is the row's
pub store_at_law : (kind : Kind) (k : ℕ) (r j n s : List ℕ) → index_ok kind n ≡ true → k < number_of kind → store_at kind k r j n s ≡ put_from 0 (runs_for kind r j n s) k
unfolding store_at
store_at_law kind k r j n s i h = rw (i, lt-ltb k (number_of kind) h)
