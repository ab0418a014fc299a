-- The tree commands (document 02, §5): where none of a command's rules applies, it keeps a good chain good, and all its stores give the next state's
-- image. What is freed is in Freeing. Assumes nothing.
use mathlib.Core.Path.{◌≡◌, refl, sym, ap, ◌∙◌}
use mathlib.Core.Logic.{◌≢◌}
use Prim.Native.Nat.{ℕ, ◌+◌, ◌*◌, ◌-◌, ◌≤◌, ◌<◌}
use native.Mathlib.Nat.{zero-add}
use native.Mathlib.Decide.{dec_lt}
use native.Mathlib.Omega.{arith}
use mathlib.Core.Bool.{Bool, true, false, cond, not, ◌||◌, true≢false}
use mathlib.Core.List.{List, [], ◌∷◌, ◌++◌}
use mathlib.Core.Option.{Option, none, some}
use lib.Dec.{eqb, ltb}
use lib.ListN.{length, get_or, set, drop, length-append, get_or-append}
use lib.Seq.{sets, get_or-append-add, get_or-set_other}
use borrow.Author.Tests.{ltb-false}
use Rattle.layout.specs.Sizes.{node_count, node_words, register_words, handle_bytes, handle_at, handle_words, current_at, cumulative_at, locality_at, mark_at, node_at}
use Rattle.layout.specs.Words.{words48, bytes48}
use Rattle.layout.proofs.Blocks.{sets_join, sets_whole}
use Rattle.sha384.specs.Entries.{extended}
use Rattle.sha384.proofs.Sizes.{measure_extended}
use Rattle.tree.specs.Tree.{Tree, default_words, retired_words, same_handle, node_with, lowest_free}
use Rattle.tree.specs.Nodes.{cumulative_in}
use Rattle.tree.proofs.WellFormed.{has_used, has_not, with_there, with_none}
use Rattle.nodes.specs.Record.{Node, handle_row, node_row, place_row, measurements_row, handle_placed, with_handle, with_current, with_cumulative, retired_handle}
use Rattle.nodes.proofs.Rows.{length_handle, length48, length_row, store_handle, store_current, store_cumulative, measurements_current, measurements_cumulative, placed_handle}
use Rattle.table.specs.Table.{Run, one, part_runs, replace_runs, runs_for}
use Rattle.table.specs.declared.Kind.TheVariants.{Derive, Replace}
use Rattle.table.specs.declared.Put.{Put}
use Rattle.work.specs.Entries.{runs_of}
use Rattle.making.specs.Made.{work_with}
use Rattle.work.proofs.Plans.{apply, stores_in, plan, run_part}
use Rattle.opening.specs.Orders.{derive, extend, rotate, traits_of, named_in, unfit}
use Rattle.opening.specs.Tasks.{Order, invoke}
use Rattle.opening.specs.Rules.{order_rules}
use Rattle.opening.specs.Values.{derived_node}
use Rattle.opening.specs.Works.{with_caller, work_at}
use Rattle.opening.proofs.Decided.{NoneApply}
use Rattle.command_laws.proofs.ByOrder.{named_there, derive_room}
use Rattle.history.specs.Ledger.{Chain, Contents, tree_at, changed, renewed, next_nodes, next_chain, next, image_of}
use Rattle.history.proofs.Good.{Good, node_at_law, free_apart, good_tree, cumulative_read, good_rotated, good_extended, good_grown, good_replaced}
use Rattle.history.proofs.Stores.{with_node, sets_node}
use Rattle.history.proofs.Runs.{plan_at, counted, mark_run, child_run}

-- ---- what a fit handle is

-- live, and no used node's
pub fit : (t : Tree) (fresh : List ℕ) → unfit t fresh ≡ false
    → (same_handle (handle_row fresh) retired_words ≡ false)
    × ((j : ℕ) → j < node_count → (t j).used ≡ true → same_handle (t j).handle (handle_row fresh) ≡ false)
unfolding unfit
fit t fresh e =
    go (not (eqb (length fresh) handle_bytes)) (same_handle (handle_row fresh) default_words) (same_handle (handle_row fresh) retired_words) refl
    (ltb (node_with node_count t (handle_row fresh)) node_count) refl e
  where
    go : (a b c : Bool) → same_handle (handle_row fresh) retired_words ≡ c → (d : Bool) → ltb (node_with node_count t (handle_row fresh)) node_count ≡ d
        → (a || (b || (c || d))) ≡ false
        → (same_handle (handle_row fresh) retired_words ≡ false)
        × ((j : ℕ) → j < node_count → (t j).used ≡ true → same_handle (t j).handle (handle_row fresh) ≡ false)
    go true b c p d q e = absurd (true≢false e)
    go false true c p d q e = absurd (true≢false e)
    go false false true p d q e = absurd (true≢false e)
    go false false false p true q e = absurd (true≢false e)
    go false false false p false q e = (
      p,
      λ j l u. has_not (handle_row fresh) (t j)
          (with_none node_count t (handle_row fresh) (omega (arith, ltb-false (node_with node_count t (handle_row fresh)) node_count q)) j l) u,
    )

-- the named node is used
pub named_used : (t : Tree) (o : Order) → NoneApply (order_rules t o) → (t (named_in t o.command)).used ≡ true
named_used t o n =
    has_used (handle_row (traits_of o.command).handle) (t (named_in t o.command))
    (with_there node_count t (handle_row (traits_of o.command).handle) (named_there t o n))

-- ---- words of one node, between the marks

one_node : (att : ℕ) (x : Contents) → Good x.chain → (i from words : ℕ) (node vs : List ℕ) (s : Option Node) → i < node_count → from + words ≤ node_words
    → length vs ≡ words → ((j : ℕ) → j < words → get_or node (from + j) 0 ≡ get_or vs j 0) → sets (place_row (get_or x.chain.nodes i none)) from vs ≡ place_row s
    → apply (stores_in (part_runs i from words node)) (image_of 1 att x) ≡ image_of 1 att (with_node x i s)
one_node att x g i from words node vs s l w n h e =
    mark_run 1 att x (drop 1 (part_runs i from words node)) 0
    ∙ run_part (one mark_at 1 ∷ []) (image_of 0 att x) (node_at i + from) words node from vs n h
    ∙ ap (apply (stores_in (one mark_at 1 ∷ []))) (sets_node 0 att x (counted x.chain g) i from vs s l (omega arith) e)
    ∙ mark_run 0 att (with_node x i s) [] 1

-- a word that the caller does not stand in
pub beside : (node : List ℕ) (caller j : ℕ) → j ≢ locality_at → get_or (with_caller node caller) j 0 ≡ get_or node j 0
beside node caller j z = get_or-set_other node locality_at j caller 0 z

-- ---- a derive

module _ (x : Chain) (g : Good x) (h : List ℕ) (r ty : ℕ) (d fresh : List ℕ) (caller : ℕ)
    (n : NoneApply (order_rules (tree_at x) (record { command = derive h r ty d; fresh = fresh; caller = caller }))) where
  abbrev derived : Order
  derived = record { command = derive h r ty d; fresh = fresh; caller = caller }

  pub good_derive : Good (next_chain x (invoke derived))
  unfolding next_chain next_nodes
  good_derive = go (eqb r 0)
    where
      i : ℕ
      i = named_in (tree_at x) (derive h r ty d)

      apart : (same_handle (handle_row fresh) retired_words ≡ false)
          × ((j : ℕ) → j < node_count → (tree_at x j).used ≡ true → same_handle (tree_at x j).handle (handle_row fresh) ≡ false)
      apart = fit (tree_at x) fresh n.1.1.1.0

      go : (b : Bool)
          → Good (record {
            registers = x.registers;
            nodes =
                cond b
                (set (set x.nodes (lowest_free node_count (tree_at x)) (some (derived_node i fresh ty d caller))) i
                (changed (with_handle retired_handle) (get_or x.nodes i none)))
                (set x.nodes (lowest_free node_count (tree_at x)) (some (derived_node i fresh ty d caller)));
          })
      go true =
          good_replaced x i fresh d _ ty caller 0 (measure_extended _ _) g (named_there (tree_at x) derived n) (named_used (tree_at x) derived n)
          (derive_room (tree_at x) h r ty d fresh caller n) apart.0 (λ j l z u. apart.1 j l u)
      go false =
          good_grown x i fresh d _ ty caller 0 (measure_extended _ _) g (named_there (tree_at x) derived n) (named_used (tree_at x) derived n)
          (derive_room (tree_at x) h r ty d fresh caller n) apart.1

-- its stores: the node, and without retain the handle of the one above
module _ (att : ℕ) (x : Contents) (g : Good x.chain) (h : List ℕ) (r ty : ℕ) (d fresh : List ℕ) (caller : ℕ)
    (n : NoneApply (order_rules (tree_at x.chain) (record { command = derive h r ty d; fresh = fresh; caller = caller }))) where
  abbrev t : Tree
  t = tree_at x.chain

  parent : ℕ
  parent = named_in t (derive h r ty d)

  free : ℕ
  free = lowest_free node_count t

  new : Node
  new = derived_node parent fresh ty d caller

  derive_row : Bool → List Run
  derive_row b = cond b (replace_runs (record { node = free; holder = parent }) (node_row new)) (part_runs free 0 node_words (node_row new))

  by_retain : (b : Bool) (f p : ℕ) (row register journey secret : List ℕ)
      → runs_for (cond b (Replace (record { node = f; holder = p })) (Derive f)) register journey row secret
      ≡ cond b (replace_runs (record { node = f; holder = p }) row) (part_runs f 0 node_words row)
  by_retain true f p row register journey secret = refl
  by_retain false f p row register journey secret = refl

  derive_plan : plan_at (image_of 1 att x) (invoke (record { command = derive h r ty d; fresh = fresh; caller = caller })) ≡ stores_in (derive_row (eqb r 0))
  unfolding plan_at plan runs_of work_at work_with derive_row parent free new
  derive_plan =
      ap stores_in (by_retain (eqb r 0) _ _ _ _ _ _)
      ∙ (let u = good_tree 1 att x g in
      λ j.
      let p = named_in (u j) (derive h r ty d) in
      let f = lowest_free node_count (u j) in
      let row = node_row (derived_node p fresh ty d caller) in
      stores_in (cond (eqb r 0) (replace_runs (record { node = f; holder = p }) row) (part_runs f 0 node_words row)))

  pub run_derive : apply (plan_at (image_of 1 att x) (invoke (record { command = derive h r ty d; fresh = fresh; caller = caller }))) (image_of 1 att x)
      ≡ image_of 1 att (next x (invoke (record { command = derive h r ty d; fresh = fresh; caller = caller })))
  unfolding next_chain next_nodes derive_row parent free new
  run_derive = ap (λ (p : List Put). apply p (image_of 1 att x)) derive_plan ∙ go (eqb r 0)
    where
      o : Order
      o = record { command = derive h r ty d; fresh = fresh; caller = caller }

      room : lowest_free node_count t < node_count
      room = derive_room t h r ty d fresh caller n

      found : (m : Node) × (get_or x.chain.nodes parent none ≡ some m)
      found = node_at_law x.chain parent (named_used t o n)

      go : (b : Bool)
          → apply (stores_in (cond b (replace_runs (record { node = free; holder = parent }) (node_row new)) (part_runs free 0 node_words (node_row new)))) (image_of 1 att x)
          ≡ image_of 1 att (record {
            secret = x.secret;
            chain =
                record {
                  registers = x.chain.registers;
                  nodes =
                      cond b
                      (set (set x.chain.nodes free (some new)) parent (changed (with_handle retired_handle) (get_or x.chain.nodes parent none)))
                      (set x.chain.nodes free (some new));
                };
          })
      go true =
          mark_run 1 att x (drop 1 (replace_runs (record { node = free; holder = parent }) (node_row new))) 0
          ∙ child_run 0 att x (one mark_at 1 ∷ []) (counted x.chain g) free parent new found.0 room (named_there t o n)
          (free_apart x.chain parent (named_used t o n) room) found.1
          ∙ mark_run 0 att (with_node (with_node x free (some new)) parent (changed (with_handle retired_handle) (get_or x.chain.nodes parent none))) [] 1
      go false =
          one_node att x g free 0 node_words (node_row new) (node_row new) (some new) room (omega arith) (length_row (some new))
          (λ j l. ap (λ (m : ℕ). get_or (node_row new) m 0) (zero-add j))
          (sets_whole (place_row (get_or x.chain.nodes free none)) (node_row new) (length_row (get_or x.chain.nodes free none) ∙ sym (length_row (some new))))

-- ---- an extend

module _ (x : Chain) (g : Good x) (h d fresh : List ℕ) (caller : ℕ)
    (n : NoneApply (order_rules (tree_at x) (record { command = extend h d; fresh = fresh; caller = caller }))) where
  pub good_extend : Good (next_chain x (invoke (record { command = extend h d; fresh = fresh; caller = caller })))
  unfolding next_chain next_nodes
  good_extend =
      good_extended x (named_in (tree_at x) (extend h d)) d g (named_there (tree_at x) (record { command = extend h d; fresh = fresh; caller = caller }) n)
      n.1.1.1.1.1.0

-- current and cumulative as neighbours, in the prepared words and in the node
both_words : (d c : List ℕ) (caller j : ℕ) → j < 2 * register_words
    → get_or (with_caller (measurements_row d c) caller) (current_at + j) 0 ≡ get_or (words48 d ++ words48 c) j 0
both_words d c caller j l =
    beside (measurements_row d c) caller (current_at + j) (λ (z : current_at + j ≡ locality_at). omega arith) ∙ elim (dec_lt j register_words) [
      | yes b ↦ measurements_current d c j b ∙ sym (get_or-append (words48 d) (words48 c) 0 j (omega (arith, length48 d)))
      | no b ↦
          (let p : current_at + j ≡ cumulative_at + (j - register_words) = omega arith in
          let q : length (words48 d) + (j - register_words) ≡ j = omega (arith, length48 d) in
          ap (λ (i : ℕ). get_or (measurements_row d c) i 0) p
          ∙ measurements_cumulative d c (j - register_words) (omega arith)
          ∙ sym (get_or-append-add (words48 d) (words48 c) (j - register_words) 0)
          ∙ ap (λ (i : ℕ). get_or (words48 d ++ words48 c) i 0) q)
    ]

store_both : (m : Node) (d c : List ℕ) → sets (node_row m) current_at (words48 d ++ words48 c) ≡ node_row (with_cumulative c (with_current d m))
store_both m d c =
    sym (sets_join (node_row m) current_at (words48 d) (words48 c))
    ∙ ap (λ (i : ℕ). sets (sets (node_row m) current_at (words48 d)) i (words48 c)) (omega (arith, length48 d))
    ∙ ap (λ (row : List ℕ). sets row cumulative_at (words48 c)) (store_current m d)
    ∙ store_cumulative (with_current d m) c

module _ (att : ℕ) (x : Contents) (g : Good x.chain) (h d fresh : List ℕ) (caller : ℕ)
    (n : NoneApply (order_rules (tree_at x.chain) (record { command = extend h d; fresh = fresh; caller = caller }))) where
  abbrev extending : Order
  extending = record { command = extend h d; fresh = fresh; caller = caller }

  at : ℕ
  at = named_in (tree_at x.chain) (extend h d)

  found_at : (m : Node) × (get_or x.chain.nodes at none ≡ some m)
  unfolding at
  found_at = node_at_law x.chain at (named_used (tree_at x.chain) extending n)

  cumulative : List ℕ
  cumulative = extended found_at.0.cumulative d

  extend_plan : plan_at (image_of 1 att x) (invoke extending)
      ≡ stores_in (part_runs at current_at (2 * register_words) (with_caller (measurements_row d cumulative) caller))
  unfolding plan_at plan runs_of work_at work_with at cumulative
  extend_plan =
      let u = ap (λ (v : Tree). named_in v (extend h d)) (good_tree 1 att x g) in
      let c = ap (λ (i : ℕ). bytes48 (cumulative_in (image_of 1 att x) i)) u
      ∙ cumulative_read 1 att x g at found_at.0 found_at.1 (named_there (tree_at x.chain) extending n) in
      λ j. stores_in (part_runs (u j) current_at (2 * register_words) (with_caller (measurements_row d (extended (c j) d)) caller))

  pub run_extend : apply (plan_at (image_of 1 att x) (invoke extending)) (image_of 1 att x) ≡ image_of 1 att (next x (invoke extending))
  unfolding next_chain next_nodes at cumulative
  run_extend =
      ap (λ (p : List Put). apply p (image_of 1 att x)) extend_plan
      ∙ one_node att x g at current_at (2 * register_words) (with_caller (measurements_row d cumulative) caller) (words48 d ++ words48 cumulative)
      (some (renewed d found_at.0)) (named_there (tree_at x.chain) extending n) (omega arith)
      (length-append (words48 d) (words48 cumulative) ∙ omega (arith, length48 d, length48 cumulative)) (both_words d cumulative caller)
      (ap (λ (s : Option Node). sets (place_row s) current_at (words48 d ++ words48 cumulative)) found_at.1 ∙ store_both found_at.0 d cumulative)
      ∙ ap (λ (s : Option Node). image_of 1 att (with_node x at (changed (renewed d) s))) (sym found_at.1)

-- ---- a rotate

module _ (x : Chain) (g : Good x) (h fresh : List ℕ) (caller : ℕ)
    (n : NoneApply (order_rules (tree_at x) (record { command = rotate h; fresh = fresh; caller = caller }))) where
  pub good_rotate : Good (next_chain x (invoke (record { command = rotate h; fresh = fresh; caller = caller })))
  unfolding next_chain next_nodes
  good_rotate =
      let o : Order = record { command = rotate h; fresh = fresh; caller = caller } in
      good_rotated x (named_in (tree_at x) (rotate h)) fresh g (named_there (tree_at x) o n) (named_used (tree_at x) o n) (fit (tree_at x) fresh n.1.1.1.0).1

module _ (att : ℕ) (x : Contents) (g : Good x.chain) (h fresh : List ℕ) (caller : ℕ)
    (n : NoneApply (order_rules (tree_at x.chain) (record { command = rotate h; fresh = fresh; caller = caller }))) where
  abbrev rotating : Order
  rotating = record { command = rotate h; fresh = fresh; caller = caller }

  rotate_plan : plan_at (image_of 1 att x) (invoke rotating)
      ≡ stores_in (part_runs (named_in (tree_at x.chain) (rotate h)) handle_at handle_words (with_caller (handle_placed fresh) caller))
  unfolding plan_at plan runs_of work_at work_with
  rotate_plan =
      let u = good_tree 1 att x g in
      λ j. stores_in (part_runs (named_in (u j) (rotate h)) handle_at handle_words (with_caller (handle_placed fresh) caller))

  pub run_rotate : apply (plan_at (image_of 1 att x) (invoke rotating)) (image_of 1 att x) ≡ image_of 1 att (next x (invoke rotating))
  unfolding next_chain next_nodes
  run_rotate =
      let i = named_in (tree_at x.chain) (rotate h) in
      let found = node_at_law x.chain i (named_used (tree_at x.chain) rotating n) in
      ap (λ (p : List Put). apply p (image_of 1 att x)) rotate_plan
      ∙ one_node att x g i handle_at handle_words (with_caller (handle_placed fresh) caller) (handle_row fresh) (some (with_handle fresh found.0))
      (named_there (tree_at x.chain) rotating n) (omega arith) (length_handle fresh)
      (λ j l. beside (handle_placed fresh) caller (handle_at + j) (λ (z : handle_at + j ≡ locality_at). omega arith) ∙ placed_handle fresh j l)
      (ap (λ (s : Option Node). sets (place_row s) handle_at (handle_row fresh)) found.1 ∙ store_handle found.0 fresh)
      ∙ ap (λ (s : Option Node). image_of 1 att (with_node x i (changed (with_handle fresh) s))) (sym found.1)
