-- A work that runs to its end leaves the image of the next state; a disabling shuts any image. Assumes nothing.
use mathlib.Core.Path.{◌≡◌, refl, sym, ap, ◌∙◌, subst}
use mathlib.Core.Logic.{◌≢◌}
use Prim.Native.Nat.{ℕ, zero, suc, ◌+◌, ◌-◌, ◌*◌, ◌<◌}
use native.Mathlib.Nat.{add-zero, zero-add, add_comm, zero-mul, suc-mul, le_of_suc-le-suc, not-suc-le-zero}
use native.Mathlib.Omega.{arith}
use mathlib.Core.List.{List, [], ◌∷◌, ◌++◌, append_assoc, map}
use mathlib.Core.Option.{Option, none, some}
use lib.Dec.{lit<, lit≤}
use lib.ListN.{length, get_or, set, drop, replicate, length-append, length-set, replicate-append-replicate}
use lib.Seq.{sets, length-sets, get_or-set_same, get_or-set_other, set-set}
use Rattle.layout.specs.Sizes.{node_count, node_words, register_count, register_words, image_words, mark_at, attestation_at, secret_at, register_at, node_at, current_register, journey_register, stash_register, handle_at, handle_words, current_at, cumulative_at, retired_word}
use Rattle.layout.specs.Words.{tab, zeros, words_at, words48, bytes48, flat}
use Rattle.layout.proofs.Blocks.{sets_whole}
use Rattle.layout.proofs.Tab.{length_zeros, get_d_zeros}
use Rattle.sha384.specs.Entries.{extended}
use Rattle.tree.specs.Nodes.{tree_in, cumulative_in}
use Rattle.tree.specs.Tree.{default_words, root_in, node_with, lowest_free}
use Rattle.tree.proofs.WellFormed.{has_used, with_there}
use Rattle.nodes.specs.Record.{Node, retired_handle, node_row, place_row, measurements_row, with_handle, with_current, with_cumulative}
use Rattle.nodes.proofs.Rows.{length48, length_row, store_handle, store_current, store_cumulative, retired_row, measurements_current, measurements_cumulative}
use Rattle.table.specs.Table.{put, Run, one, fill, copy, stash_runs, disabling_runs, update_runs, cold_runs, extension_runs, number_of}
use Rattle.work.specs.Entries.{runs_of}
use Rattle.making.specs.Made.{work_with}
use Rattle.table.specs.declared.Put.{Put}
use Rattle.table.proofs.ByKind.{EveryRun}
use Rattle.work.proofs.Plans.{apply, stores_in, every_stores, every_at, plan, length_plan, run_one, run_zeros, run_fill, run_copy, run_part}
use Rattle.opening.specs.Values.{extended_by_boot, stashed_node, root_node}
use Rattle.opening.specs.Tasks.{BootInputs, Measurement, RegisterExtension, Task, disable_command, disabling_boot, stash, update, cold_boot, extension}
use Rattle.opening.specs.Works.{facts_of, work_at}
use Rattle.history.specs.Ledger.{Chain, Contents, tree_at, changed, renewed, next_chain, next, register_rows, node_rows, image_of}
use Rattle.history.specs.Demand.{Shut}
use Rattle.history.proofs.Encoded.{register_read}
use Rattle.history.proofs.Good.{Good, node_at_law, root_below, root_node_law, free_apart, good_tree, cumulative_read}
use Rattle.history.proofs.Stores.{with_secret, with_register, with_node, Counted, counted_register, counted_node, store_mark, store_attestation, sets_secret, sets_register, sets_node}

-- ---- the stores of a task's work, at an image: the answer has no part in them

unfoldable pub plan_at : List ℕ → Task → List Put
plan_at l t = plan (work_at l t [])

pub plan_answer : (l : List ℕ) (t : Task) (a : List ℕ) → plan (work_at l t a) ≡ plan_at l t
unfolding plan_at plan runs_of work_at work_with
plan_answer l t a = refl

pub length_at : (l : List ℕ) (t : Task) → length (plan_at l t) ≡ number_of ((facts_of t).kind (tree_in l))
unfolding plan_at work_at work_with
length_at l t = length_plan (work_at l t [])

-- ---- a run of the table, made on the image of a state

module _ (mk att : ℕ) (x : Contents) (rs : List Run) where
  pub mark_run : (v : ℕ) → apply (stores_in (one mark_at v ∷ rs)) (image_of mk att x) ≡ apply (stores_in rs) (image_of v att x)
  mark_run v = run_one rs (image_of mk att x) mark_at v ∙ ap (apply (stores_in rs)) (store_mark mk att x v)

  attestation_run : (v : ℕ) → apply (stores_in (one attestation_at v ∷ rs)) (image_of mk att x) ≡ apply (stores_in rs) (image_of mk v x)
  attestation_run v = run_one rs (image_of mk att x) attestation_at v ∙ ap (apply (stores_in rs)) (store_attestation mk att x v)

  secret_run : (s : List ℕ)
      → apply (stores_in (copy secret_at register_words (words48 s) ∷ rs)) (image_of mk att x) ≡ apply (stores_in rs) (image_of mk att (with_secret x s))
  secret_run s =
      run_copy rs (image_of mk att x) secret_at register_words (words48 s) (length48 s) ∙ ap (apply (stores_in rs)) (sets_secret mk att x s)

  register_run : Counted x.chain → (i : ℕ) (v : List ℕ) → i < register_count
      → apply (stores_in (copy (register_at i) register_words (words48 v) ∷ rs)) (image_of mk att x) ≡ apply (stores_in rs) (image_of mk att (with_register x i v))
  register_run c i v h =
      run_copy rs (image_of mk att x) (register_at i) register_words (words48 v) (length48 v) ∙ ap (apply (stores_in rs)) (sets_register mk att x c i v h)

  pub node_run : Counted x.chain → (i : ℕ) (n : Node) → i < node_count
      → apply (stores_in (copy (node_at i) node_words (node_row n) ∷ rs)) (image_of mk att x) ≡ apply (stores_in rs) (image_of mk att (with_node x i (some n)))
  node_run c i n h =
      run_copy rs (image_of mk att x) (node_at i) node_words (node_row n) (length_row (some n))
      ∙ ap (apply (stores_in rs))
      (ap (λ (k : ℕ). sets (image_of mk att x) k (node_row n)) (sym (add-zero (node_at i)))
      ∙ sets_node mk att x c i 0 (node_row n) (some n) h (omega (arith, length_row (some n)))
      (sets_whole (place_row (get_or x.chain.nodes i none)) (node_row n) (length_row (get_or x.chain.nodes i none) ∙ sym (length_row (some n)))))

-- ---- a disabling

zero_words : words48 (zeros 48) ≡ zeros register_words
unfolding words_at tab zeros
zero_words = refl

abbrev pub disabled : Contents → Contents
disabled x = with_secret x (zeros 48)

unfoldable pub off_plan : List Put
off_plan = stores_in disabling_runs

pub run_off : (att : ℕ) (x : Contents) → apply off_plan (image_of 1 att x) ≡ image_of 1 0 (disabled x)
unfolding off_plan
run_off att x =
    mark_run 1 att x (drop 1 disabling_runs) 0
    ∙ attestation_run 0 att x (drop 2 disabling_runs) 0
    ∙ run_zeros (drop 3 disabling_runs) (image_of 0 0 x) secret_at register_words
    ∙ ap (λ (z : List ℕ). apply (stores_in (drop 3 disabling_runs)) (sets (image_of 0 0 x) secret_at z)) (sym zero_words)
    ∙ ap (apply (stores_in (drop 3 disabling_runs))) (sets_secret 0 0 x (zeros 48))
    ∙ mark_run 0 0 (disabled x) [] 1

-- ---- a disabling on any image: at its end the image is shut, and no store of it opens a shut image

pub command_plan : (l : List ℕ) → plan_at l disable_command ≡ off_plan
unfolding plan_at plan runs_of work_at work_with off_plan
command_plan l = refl

pub boot_plan : (l : List ℕ) → plan_at l disabling_boot ≡ off_plan
unfolding plan_at plan runs_of work_at work_with off_plan
boot_plan l = refl

sets_before : (l : List ℕ) (a : ℕ) (vs : List ℕ) (i : ℕ) → i < a → get_or (sets l a vs) i 0 ≡ get_or l i 0
sets_before l a [] i h = refl
sets_before l a (v ∷ vs) i h =
    sets_before (set l a v) (suc a) vs i (omega arith) ∙ get_or-set_other l a i v 0 (λ (q : i ≡ a). omega arith)

sets_in : (l : List ℕ) (a : ℕ) (vs : List ℕ) (j : ℕ) → j < length vs → a + j < length l → get_or (sets l a vs) (a + j) 0 ≡ get_or vs j 0
sets_in l a [] j h k = absurd (not-suc-le-zero h)
sets_in l a (v ∷ vs) zero h k =
    ap (λ (n : ℕ). get_or (sets (set l a v) (suc a) vs) n 0) (add-zero a)
    ∙ sets_before (set l a v) (suc a) vs a (omega arith)
    ∙ get_or-set_same l a v 0 (omega arith)
sets_in l a (v ∷ vs) (suc j) h k =
    ap (λ (n : ℕ). get_or (sets (set l a v) (suc a) vs) n 0) (next_place a j)
    ∙ sets_in (set l a v) (suc a) vs j (le_of_suc-le-suc h) (rw length-set (omega arith))
  where
    next_place : (b i : ℕ) → b + suc i ≡ suc b + i
    next_place b i = omega arith

module _ (l : List ℕ) (len : length l ≡ image_words) where
  shutting : List ℕ
  shutting = set (set l mark_at 0) attestation_at 0

  shutting_length : length shutting ≡ image_words
  unfolding shutting
  shutting_length = length-set (set l mark_at 0) attestation_at 0 ∙ length-set l mark_at 0 ∙ len

  shut_words : List ℕ
  shut_words = sets shutting secret_at (zeros register_words)

  shut_length : length shut_words ≡ image_words
  unfolding shut_words
  shut_length = length-sets shutting secret_at (zeros register_words) ∙ shutting_length

  ended : apply off_plan l ≡ set shut_words mark_at 1
  unfolding off_plan shut_words shutting
  ended =
      run_one (drop 1 disabling_runs) l mark_at 0
      ∙ run_one (drop 2 disabling_runs) (set l mark_at 0) attestation_at 0
      ∙ run_zeros (drop 3 disabling_runs) shutting secret_at register_words
      ∙ run_one [] shut_words mark_at 1

  pub off_mark : get_or (apply off_plan l) mark_at 0 ≡ 1
  off_mark = ap (λ (z : List ℕ). get_or z mark_at 0) ended ∙ get_or-set_same shut_words mark_at 1 0 (omega (arith, shut_length))

  pub off_shut : Shut (apply off_plan l)
  off_shut =
      subst Shut (sym ended)
      (record {
        off = get_or-set_other shut_words mark_at attestation_at 1 0 (λ (q : attestation_at ≡ mark_at). omega arith) ∙ word1;
        secret = λ i h. get_or-set_other shut_words mark_at (secret_at + i) 1 0 (λ (q : secret_at + i ≡ mark_at). omega arith) ∙ word4 i h;
      })
    where
      word1 : get_or shut_words attestation_at 0 ≡ 0
      word1 =
          unfold shut_words in
          (sets_before shutting secret_at (zeros register_words) attestation_at (lit< tt)
          ∙ unfold shutting in (get_or-set_same (set l mark_at 0) attestation_at 0 0 (rw length-set (omega arith))))

      word4 : (i : ℕ) → i < register_words → get_or shut_words (secret_at + i) 0 ≡ 0
      word4 i h =
          unfold shut_words in
          (sets_in shutting secret_at (zeros register_words) i (omega (arith, length_zeros register_words)) (omega (arith, shutting_length))
          ∙ get_d_zeros register_words i h)

-- a store that keeps an image shut: to the mark, or of a zero
abbrev Quiet : Put → Type 0
Quiet p = (l : List ℕ) → Shut l → Shut (set l p.address p.value)

set_zero : (l : List ℕ) (i j : ℕ) → get_or l j 0 ≡ 0 → get_or (set l i 0) j 0 ≡ 0
set_zero [] i j e = e
set_zero (x ∷ l) zero zero e = refl
set_zero (x ∷ l) zero (suc j) e = e
set_zero (x ∷ l) (suc i) zero e = e
set_zero (x ∷ l) (suc i) (suc j) e = set_zero l i j e

shut_zero : (i : ℕ) (l : List ℕ) → Shut l → Shut (set l i 0)
shut_zero i l s = record { off = set_zero l i attestation_at s.off; secret = λ k h. set_zero l i (secret_at + k) (s.secret k h) }

shut_mark : (v : ℕ) (l : List ℕ) → Shut l → Shut (set l mark_at v)
shut_mark v l s =
    record {
      off = get_or-set_other l mark_at attestation_at v 0 (λ (q : attestation_at ≡ mark_at). omega arith) ∙ s.off;
      secret = λ k h. get_or-set_other l mark_at (secret_at + k) v 0 (λ (q : secret_at + k ≡ mark_at). omega arith) ∙ s.secret k h;
    }

-- one store of a disabling
pub shut_store : (k : ℕ) (l : List ℕ) → k < length off_plan → Shut l → Shut (set l (get_or off_plan k (put 0 0)).address (get_or off_plan k (put 0 0)).value)
unfolding off_plan
shut_store k l h s = every_at Quiet off_plan (every_stores Quiet disabling_runs quiet) k h l s
  where
    quiet : EveryRun Quiet disabling_runs
    quiet = (λ j. shut_mark 0, (λ j. shut_zero attestation_at, (λ j. shut_zero (secret_at + j), (λ j. shut_mark 1, tt))))

-- ---- a new node, and the one above it retired

pub counted : (x : Chain) → Good x → Counted x
counted x g = record { registers = g.shape.registers; nodes = g.shape.nodes }

pub child_run : (mk att : ℕ) (x : Contents) (rs : List Run) → Counted x.chain → (k b : ℕ) (child n : Node) → k < node_count → b < node_count → b ≢ k
    → get_or x.chain.nodes b none ≡ some n
    → apply (stores_in (copy (node_at k) node_words (node_row child) ∷ fill (node_at b + handle_at) handle_words retired_word ∷ rs)) (image_of mk att x)
    ≡ apply (stores_in rs) (image_of mk att (with_node (with_node x k (some child)) b (changed (with_handle retired_handle) (get_or x.chain.nodes b none))))
child_run mk att x rs c k b child n room there apart found =
    node_run mk att x (fill (node_at b + handle_at) handle_words retired_word ∷ rs) c k child room
    ∙ run_fill rs (image_of mk att x1) (node_at b + handle_at) handle_words retired_word
    ∙ ap (apply (stores_in rs))
    (sets_node mk att x1 (counted_node x.chain k (some child) c) b handle_at (replicate handle_words retired_word) old there (lit≤ tt) handle)
  where
    old : Option Node
    old = changed (with_handle retired_handle) (get_or x.chain.nodes b none)

    x1 : Contents
    x1 = with_node x k (some child)

    handle : sets (place_row (get_or x1.chain.nodes b none)) handle_at (replicate handle_words retired_word) ≡ place_row old
    handle =
        ap (λ (s : Option Node). sets (place_row s) handle_at (replicate handle_words retired_word))
        (get_or-set_other x.chain.nodes k b (some child) none apart ∙ found)
        ∙ ap (sets (node_row n) handle_at) (sym retired_row)
        ∙ store_handle n retired_handle
        ∙ ap (λ (s : Option Node). place_row (changed (with_handle retired_handle) s)) (sym found)

-- ---- a stash

module _ (att : ℕ) (x : Contents) (g : Good x.chain) (m : Measurement) where
  holder : ℕ
  holder = node_with node_count (tree_at x.chain) default_words

  free : ℕ
  free = lowest_free node_count (tree_at x.chain)

  register : List ℕ
  register = extended (get_or x.chain.registers stash_register []) m.digest

  runs : List Run
  runs = stash_runs (record { node = free; holder = holder }) (words48 register) (node_row (stashed_node holder m))

  stash_plan : plan_at (image_of 1 att x) (stash m) ≡ stores_in runs
  unfolding plan_at plan runs_of work_at work_with runs register holder free
  stash_plan =
      let t = good_tree 1 att x g in
      let r = register_read 1 att x g.shape stash_register (lit< tt) in
      λ i. stores_in
      (stash_runs (record { node = lowest_free node_count (t i); holder = node_with node_count (t i) default_words }) (words48 (extended (r i) m.digest))
      (node_row (stashed_node (node_with node_count (t i) default_words) m)))

  pub run_stash : node_with node_count (tree_at x.chain) default_words < node_count → lowest_free node_count (tree_at x.chain) < node_count
      → apply (plan_at (image_of 1 att x) (stash m)) (image_of 1 att x) ≡ image_of 1 att (next x (stash m))
  unfolding next_chain runs register holder free
  run_stash held room =
      let used = has_used default_words (tree_at x.chain holder) (with_there node_count (tree_at x.chain) default_words held) in
      let found = node_at_law x.chain holder used in
      ap (λ (p : List Put). apply p (image_of 1 att x)) stash_plan
      ∙ mark_run 1 att x (drop 1 runs) 0
      ∙ register_run 0 att x (drop 2 runs) (counted x.chain g) stash_register register (lit< tt)
      ∙ child_run 0 att (with_register x stash_register register) (drop 4 runs) (counted_register x.chain stash_register register (counted x.chain g)) free holder
      (stashed_node holder m) found.0 room held (free_apart x.chain holder used room) found.1
      ∙ mark_run 0 att (next x (stash m)) [] 1

-- ---- an extension

module _ (att : ℕ) (x : Contents) (g : Good x.chain) (e : RegisterExtension) (within : e.register < register_count) where
  value : List ℕ
  value = extended (get_or x.chain.registers e.register []) e.digest

  extension_row : List Run
  extension_row = extension_runs e.register (words48 value)

  extension_plan : plan_at (image_of 1 att x) (extension e) ≡ stores_in extension_row
  unfolding plan_at plan runs_of work_at work_with extension_row value
  extension_plan =
      let r = register_read 1 att x g.shape e.register within in
      λ i. stores_in (extension_runs e.register (words48 (extended (r i) e.digest)))

  pub run_extension : apply (plan_at (image_of 1 att x) (extension e)) (image_of 1 att x) ≡ image_of 1 att (next x (extension e))
  unfolding next_chain extension_row value
  run_extension =
      ap (λ (p : List Put). apply p (image_of 1 att x)) extension_plan
      ∙ mark_run 1 att x (drop 1 extension_row) 0
      ∙ register_run 0 att x (drop 2 extension_row) (counted x.chain g) e.register value within
      ∙ mark_run 0 att (with_register x e.register value) [] 1

-- ---- an update

module _ (att : ℕ) (x : Contents) (g : Good x.chain) (b : BootInputs) where
  root : ℕ
  root = root_in node_count (tree_at x.chain)

  root_now : Node
  root_now = (root_node_law x.chain g).0

  journey : List ℕ
  journey = extended_by_boot (get_or x.chain.registers journey_register []) b

  cumulative : List ℕ
  cumulative = extended root_now.cumulative journey

  update_row : List Run
  update_row = update_runs root (words48 (extended_by_boot (zeros 48) b)) (words48 journey) (measurements_row journey cumulative) (words48 b.secret)

  update_plan : plan_at (image_of 1 att x) (update b) ≡ stores_in update_row
  unfolding plan_at plan runs_of work_at work_with update_row cumulative journey root root_now
  update_plan =
      let t = ap (root_in node_count) (good_tree 1 att x g) in
      let r = register_read 1 att x g.shape journey_register (lit< tt) in
      let c = ap (λ (i : ℕ). bytes48 (cumulative_in (image_of 1 att x) i)) t
      ∙ cumulative_read 1 att x g root root_now (root_node_law x.chain g).1 (root_below x.chain g) in
      λ i. stores_in
      (update_runs (t i) (words48 (extended_by_boot (zeros 48) b)) (words48 (extended_by_boot (r i) b))
      (measurements_row (extended_by_boot (r i) b) (extended (c i) (extended_by_boot (r i) b))) (words48 b.secret))

  pub run_update : apply (plan_at (image_of 1 att x) (update b)) (image_of 1 att x) ≡ image_of 1 att (next x (update b))
  unfolding next_chain update_row cumulative journey root root_now
  run_update =
      ap (λ (p : List Put). apply p (image_of 1 att x)) update_plan
      ∙ mark_run 1 att x (drop 1 update_row) 0
      ∙ register_run 0 att x (drop 2 update_row) (counted x.chain g) current_register (extended_by_boot (zeros 48) b) (lit< tt)
      ∙ register_run 0 att x1 (drop 3 update_row) c1 journey_register journey (lit< tt)
      ∙ secret_run 0 att x2 (drop 4 update_row) b.secret
      ∙ run_part (drop 5 update_row) (image_of 0 att x3) (node_at root + current_at) register_words values current_at (words48 journey) (length48 journey)
      (measurements_current journey cumulative)
      ∙ ap (apply (stores_in (drop 5 update_row)))
      (sets_node 0 att x3 c3 root current_at (words48 journey) (some half) (root_below x.chain g) (omega (arith, length48 journey)) current_row)
      ∙ run_part (drop 6 update_row) (image_of 0 att x4) (node_at root + cumulative_at) register_words values cumulative_at (words48 cumulative)
      (length48 cumulative) (measurements_cumulative journey cumulative)
      ∙ ap (apply (stores_in (drop 6 update_row)))
      (sets_node 0 att x4 c4 root cumulative_at (words48 cumulative) (some whole) (root_below x.chain g) (omega (arith, length48 cumulative)) cumulative_row)
      ∙ mark_run 0 att (with_node x4 root (some whole)) [] 1
      ∙ ap (λ (ns : List (Option Node)). image_of 1 att (record { secret = b.secret; chain = record { registers = x2.chain.registers; nodes = ns } }))
      (set-set x.chain.nodes root (some half) (some whole) ∙ ap (λ (r : Option Node). set x.chain.nodes root (changed (renewed journey) r)) (sym found))
    where
      found : get_or x.chain.nodes root none ≡ some root_now
      found = (root_node_law x.chain g).1

      values : List ℕ
      values = measurements_row journey cumulative

      -- the root with the new current measurement, and with both
      half : Node
      half = with_current journey root_now

      whole : Node
      whole = with_cumulative cumulative half

      x1 : Contents
      x1 = with_register x current_register (extended_by_boot (zeros 48) b)

      c1 : Counted x1.chain
      c1 = counted_register x.chain current_register (extended_by_boot (zeros 48) b) (counted x.chain g)

      x2 : Contents
      x2 = with_register x1 journey_register journey

      x3 : Contents
      x3 = with_secret x2 b.secret

      c3 : Counted x3.chain
      c3 = counted_register x1.chain journey_register journey c1

      x4 : Contents
      x4 = with_node x3 root (some half)

      c4 : Counted x4.chain
      c4 = counted_node x3.chain root (some half) c3

      current_row : sets (place_row (get_or x.chain.nodes root none)) current_at (words48 journey) ≡ place_row (some half)
      current_row = ap (λ (r : Option Node). sets (place_row r) current_at (words48 journey)) found ∙ store_current root_now journey

      cumulative_row : sets (place_row (get_or (set x.chain.nodes root (some half)) root none)) cumulative_at (words48 cumulative) ≡ place_row (some whole)
      cumulative_row =
          ap (λ (r : Option Node). sets (place_row r) cumulative_at (words48 cumulative))
          (get_or-set_same x.chain.nodes root (some half) none (omega (arith, root_below x.chain g, g.shape.nodes)))
          ∙ store_cumulative half cumulative

-- ---- a cold boot, on any image of the right length: each run goes on where the one before ended

sets_append : (l : List ℕ) (a : ℕ) (vs ws : List ℕ) → sets l a (vs ++ ws) ≡ sets (sets l a vs) (a + length vs) ws
sets_append l a [] ws = ap (λ (n : ℕ). sets l n ws) (sym (add-zero a))
sets_append l a (v ∷ vs) ws =
    sets_append (set l a v) (suc a) vs ws ∙ ap (λ (n : ℕ). sets (sets (set l a v) (suc a) vs) n ws) (omega arith)

-- where the stores `all` have come to on the image l: the runs rs are left, and the first a words are `front`
record Reached (l : List ℕ) (all : List Put) (rs : List Run) (front : List ℕ) (a : ℕ) : Type 0 where
  same : apply all l ≡ apply (stores_in rs) (sets l 0 front)
  long : length front ≡ a

onward : (rs : List Run) (l front vs : List ℕ) (a : ℕ) → length front ≡ a
    → apply (stores_in rs) (sets (sets l 0 front) a vs) ≡ apply (stores_in rs) (sets l 0 (front ++ vs))
onward rs l front vs a e =
    ap (apply (stores_in rs)) (ap (λ (n : ℕ). sets (sets l 0 front) n vs) (sym (rw zero-add e)) ∙ sym (sets_append l 0 front vs))

module _ {l : List ℕ} {all : List Put} {rs : List Run} {front : List ℕ} {a : ℕ} where
  past_zeros : (n : ℕ) → Reached l all (fill a n 0 ∷ rs) front a → Reached l all rs (front ++ zeros n) (a + n)
  past_zeros n r =
      record {
        same = r.same ∙ run_zeros rs (sets l 0 front) a n ∙ onward rs l front (zeros n) a r.long;
        long = length-append front (zeros n) ∙ omega (arith, r.long, length_zeros n);
      }

  past_copy : (n : ℕ) (vs : List ℕ) → length vs ≡ n → Reached l all (copy a n vs ∷ rs) front a → Reached l all rs (front ++ vs) (a + n)
  past_copy n vs e r =
      record {
        same = r.same ∙ run_copy rs (sets l 0 front) a n vs e ∙ onward rs l front vs a r.long;
        long = length-append front vs ∙ omega (arith, r.long);
      }

-- equal rows of zeros
flat_zeros : {A : Type 0} (f : A → List ℕ) (x : A) (w : ℕ) → f x ≡ zeros w → (n : ℕ) → flat (map f (replicate n x)) ≡ zeros (n * w)
unfolding zeros
flat_zeros f x w e zero = ap (λ (n : ℕ). replicate n 0) (sym (zero-mul w))
flat_zeros f x w e (suc n) =
    ap (λ (r : List ℕ). r ++ flat (map f (replicate n x))) e
    ∙ ap (λ (r : List ℕ). replicate w 0 ++ r) (flat_zeros f x w e n)
    ∙ replicate-append-replicate w (n * w) 0
    ∙ ap (λ (k : ℕ). replicate k 0) (sym (suc-mul n w ∙ add_comm (n * w) w))

zeros_append : (m n : ℕ) → zeros m ++ zeros n ≡ zeros (m + n)
unfolding zeros
zeros_append m n = replicate-append-replicate m n 0

module _ (y : Contents) (b : BootInputs) where
  m : List ℕ
  m = words48 (extended_by_boot (zeros 48) b)

  root_words : List ℕ
  root_words = node_row (root_node (extended_by_boot (zeros 48) b))

  -- the registers past PCR3, and the nodes past the root_words
  rest_registers : ℕ
  rest_registers = (register_count - (journey_register + 1)) * register_words

  rest_nodes : ℕ
  rest_nodes = (node_count - 1) * node_words

  cold_registers_law : register_rows (next_chain y.chain (cold_boot b)) ≡ zeros (current_register * register_words) ++ (m ++ (m ++ zeros rest_registers))
  unfolding next_chain m rest_registers
  cold_registers_law =
      ap (λ (r : List ℕ). words48 (zeros 48) ++ (words48 (zeros 48) ++ (m ++ (m ++ r))))
      (flat_zeros words48 (zeros 48) register_words zero_words (register_count - (journey_register + 1)))
      ∙ ap (λ (z : List ℕ). z ++ (z ++ (m ++ (m ++ zeros rest_registers)))) zero_words
      ∙ sym (append_assoc (zeros register_words) (zeros register_words) (m ++ (m ++ zeros rest_registers)))
      ∙ ap (λ (z : List ℕ). z ++ (m ++ (m ++ zeros rest_registers))) (zeros_append register_words register_words)

  cold_nodes_law : node_rows (next_chain y.chain (cold_boot b)) ≡ root_words ++ zeros rest_nodes
  unfolding next_chain root_words rest_nodes
  cold_nodes_law = ap (λ (r : List ℕ). node_row (root_node (extended_by_boot (zeros 48) b)) ++ r) (flat_zeros place_row none node_words refl (node_count - 1))

  regroup : (p z w a u v o r c : List ℕ) → p ++ z ++ w ++ a ++ u ++ v ++ o ++ r ++ c ≡ p ++ (z ++ (w ++ (a ++ (u ++ (v ++ o)) ++ (r ++ c))))
  regroup p z w a u v o r c = simp append_assoc

  two_zeros : zeros 2 ≡ 0 ∷ 0 ∷ []
  unfolding zeros
  two_zeros = refl

  -- all words in a row
  cold_words : List ℕ
  cold_words =
      (0 ∷ 1 ∷ []) ++ zeros 2 ++ words48 b.secret ++ zeros (current_register * register_words) ++ m ++ m ++ zeros rest_registers ++ root_words ++ zeros
      rest_nodes

  cold_image_law : cold_words ≡ image_of 0 1 (next y (cold_boot b))
  unfolding image_of cold_words
  cold_image_law =
      regroup (0 ∷ 1 ∷ []) (zeros 2) (words48 b.secret) (zeros (current_register * register_words)) m m (zeros rest_registers) root_words (zeros rest_nodes)
      ∙ (λ i. 0 ∷ 1 ∷ (two_zeros i ++ (words48 b.secret ++ (sym cold_registers_law i ++ sym cold_nodes_law i))))

  cold_reached : (l : List ℕ) → Reached l (stores_in (cold_runs m m root_words (words48 b.secret))) (one mark_at 1 ∷ []) cold_words image_words
  unfolding m root_words rest_registers rest_nodes cold_words
  cold_reached l =
      past_zeros rest_nodes
      (past_copy node_words root_words (length_row (some (root_node (extended_by_boot (zeros 48) b))))
      (past_zeros rest_registers
      (past_copy register_words m (length48 (extended_by_boot (zeros 48) b))
      (past_copy register_words m (length48 (extended_by_boot (zeros 48) b))
      (past_zeros (current_register * register_words)
      (past_copy register_words (words48 b.secret) (length48 b.secret)
      (past_zeros 2 start)))))))
    where
      runs : List Run
      runs = cold_runs m m root_words (words48 b.secret)

      start : Reached l (stores_in runs) (drop 2 runs) (0 ∷ 1 ∷ []) 2
      start = record { same = run_one (drop 1 runs) l mark_at 0 ∙ run_one (drop 2 runs) (set l mark_at 0) attestation_at 1; long = refl }

  pub run_cold : (before l : List ℕ) → length l ≡ image_words → apply (plan_at before (cold_boot b)) l ≡ image_of 1 1 (next y (cold_boot b))
  unfolding plan_at plan runs_of work_at work_with m root_words
  run_cold before l e =
      (cold_reached l).same
      ∙ ap (apply (stores_in (one mark_at 1 ∷ []))) (sets_whole l cold_words (e ∙ sym (cold_reached l).long) ∙ cold_image_law)
      ∙ mark_run 0 1 (next y (cold_boot b)) [] 1
