-- What a stash request gets on an image, by attestation and by the number of used nodes. Assumes nothing.
use mathlib.Core.Path.{◌≡◌, refl, sym}
use Prim.Native.Nat.{ℕ, ◌<◌}
use native.Mathlib.Omega.{arith}
use native.Mathlib.Decide.{dec_lt}
use mathlib.Core.Bool.{Bool, true, false, cond, not}
use mathlib.Core.List.{List}
use lib.Dec.{leb}
use borrow.Author.Tests.{eq-eqb, ne_eqb, lt-leb, le-leb, lt-ltb}
use lib.ListN.{get_or, drop}
use Rattle.layout.specs.Sizes.{node_count, attestation_at}
use Rattle.layout.specs.Words.{le32, bytes4}
use Rattle.layout.proofs.Bounded.{first_lowest, count_all_law, count_not_all}
use Rattle.message.specs.Checksum.{checksum_of}
use Rattle.tree.specs.Tree.{Tree, default_words, node_with, lowest_free}
use Rattle.tree.specs.Nodes.{tree_in}
use Rattle.tree.proofs.WellFormed.{free_there}
use Rattle.table.specs.Table.{number_of, index_ok}
use Rattle.work.specs.Entries.{well_shaped, left_of}
use Rattle.making.specs.Made.{answer_in, work_with}
use Rattle.table.specs.declared.Kind.TheVariants.{Stash}
use Rattle.table.specs.declared.StashAt.{StashAt}
use Rattle.opening.specs.Tasks.{Request, Task, no_stores, stash, accepted}
use Rattle.opening.specs.Rules.{wrong_checksum, measurement_in, answer_of}
use Rattle.opening.specs.Works.{work_at}
use Rattle.opening.specs.Openings.{opened_of, view_in, open_request}
use Rattle.cards.specs.Cards.{Serving, SwitchedOff, StashRequest, used_nodes, Accepted, Declined}

-- ---- a free node, or none

all_used : (t : Tree) (i : ℕ) → i < lowest_free node_count t → (t i).used ≡ true
unfolding lowest_free
all_used t i l = go (t i).used (first_lowest (λ j. not (t j).used) node_count 0 i (omega arith) l)
  where
    go : (b : Bool) → not b ≡ false → b ≡ true
    go true h = refl
    go false h = sym h

room : (m : List ℕ) → used_nodes m < node_count → lowest_free node_count (tree_in m) < node_count
room m h = elim (dec_lt (lowest_free node_count (tree_in m)) node_count) [
  | yes l ↦ l
  | no l ↦ absurd (omega (arith, count_all_law (λ i. (tree_in m i).used) node_count (λ i b. all_used (tree_in m) i (omega arith))))
]

no_room : (m : List ℕ) → used_nodes m ≡ node_count → leb node_count (lowest_free node_count (tree_in m)) ≡ true
no_room m h = elim (dec_lt (lowest_free node_count (tree_in m)) node_count) [
  | yes l ↦ absurd (omega (arith, count_not_all (λ i. (tree_in m i).used) node_count (lowest_free node_count (tree_in m)) l (free_there node_count (tree_in m) l)))
  | no l ↦ le-leb node_count (lowest_free node_count (tree_in m)) (omega arith)
]

-- ---- the ruling

module _ (m : List ℕ) (r : Request) (q : StashRequest r) where
  abbrev task : Task
  task = stash (measurement_in r)

  abbrev answer : ℕ → List ℕ
  answer n = answer_of (bytes4 n)

  sum_fits : wrong_checksum r.code r.bytes ≡ false
  unfolding wrong_checksum
  sum_fits = rw (eq-eqb (le32 r.bytes 0) (checksum_of r.code (drop 4 r.bytes)) q.checksum)

  result : (n : ℕ) → n < 256 → le32 (answer_in (answer n)).bytes 8 ≡ n
  unfolding answer_of
  result n l = omega arith

  -- nothing to store, with a dpe result
  declined : (n : ℕ) → n < 256 → open_request m r ≡ opened_of m (accepted no_stores (answer n)) → Declined (open_request m r) n
  unfolding work_at work_with left_of well_shaped index_ok number_of answer_of
  declined n l e = rw e (record { status = refl; kind = refl; left = refl; result = result n l })

  ruled_off : SwitchedOff m → open_request m r ≡ opened_of m (accepted no_stores (answer 2))
  unfolding open_request view_in
  ruled_off s = rw (sum_fits, s.size, s.done, ne_eqb (get_or m attestation_at 0) 1 s.off, q.code, q.size)

  pub declines_off : SwitchedOff m → Declined (open_request m r) 2 × (le32 (open_request m r).work.answer 0 ≡ 0xFFFFFFFE)
  unfolding work_at work_with answer_of checksum_of
  declines_off s = (declined 2 (omega arith) (ruled_off s), rw (ruled_off s))

  module _ (s : Serving m) where
    -- the task and the dpe result, by "no node is free"
    ruled : (b : Bool) → leb node_count (lowest_free node_count (tree_in m)) ≡ b
        → open_request m r ≡ opened_of m (accepted (cond b no_stores task) (answer (cond b 1 0)))
    unfolding open_request view_in
    ruled true e = rw (sum_fits, s.size, s.done, q.code, q.size, s.on, s.formed, lt-leb node_count (node_with node_count (tree_in m) default_words) s.held, e)
    ruled false e = rw (sum_fits, s.size, s.done, q.code, q.size, s.on, s.formed, lt-leb node_count (node_with node_count (tree_in m) default_words) s.held, e)

    place : StashAt
    place = record { node = lowest_free node_count (tree_in m); holder = node_with node_count (tree_in m) default_words }

    left : used_nodes m < node_count → left_of (work_at m task (answer 0)) ≡ number_of (Stash place)
    unfolding place work_at work_with left_of well_shaped index_ok number_of answer_of
    left h =
        rw (
          lt-ltb (lowest_free node_count (tree_in m)) node_count (room m h),
          lt-ltb (node_with node_count (tree_in m) default_words) node_count s.held,
        )

    pub accepts : used_nodes m < node_count → Accepted (open_request m r)
    unfolding place work_at work_with
    accepts h =
        rw (ruled false (lt-leb node_count (lowest_free node_count (tree_in m)) (room m h)))
        (record { status = refl; kind = (place, refl, left h); result = result 0 (omega arith) })

    pub declines : used_nodes m ≡ node_count → Declined (open_request m r) 1
    declines h = declined 1 (omega arith) (ruled true (no_room m h))
