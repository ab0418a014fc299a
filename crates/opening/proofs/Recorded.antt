-- A work that is opened for a task gives that task's journal entry. Assumes nothing.
use mathlib.Core.Path.{◌≡◌, refl, sym, ap, ◌∙◌}
use Prim.Native.Nat.{ℕ, zero, suc, ◌-◌, ◌≤◌}
use native.Mathlib.Omega.{arith}
use mathlib.Core.List.{List, [], ◌∷◌, ◌++◌, append-nil}
use lib.ListN.{length, take, drop, length-append}
use lib.Seq.{take_all, take-append_seam, drop-append_seam, get_or-set_same}
use Rattle.layout.specs.Sizes.{node_count, node_words, handle_bytes, locality_at}
use Rattle.layout.proofs.Tab.{length_zeros}
use Rattle.layout.specs.Words.{zeros, bytes48, part}
use Rattle.layout.proofs.Packing.{part_within}
use Rattle.sha384.specs.Entries.{extended}
use Rattle.tree.specs.Tree.{default_words, node_with, freed_by}
use Rattle.tree.specs.Nodes.{tree_in, cumulative_in}
use Rattle.nodes.specs.Record.{Node, measurements_row, handle_placed}
use Rattle.nodes.proofs.Rows.{length_measurements, length_placed}
use Rattle.nodes.proofs.Rows.{row_type, row_locality, row_svn}
use Rattle.work.specs.Recorded.{first_digest, second_digest, handle_told, fresh_told, caller_told, entries_for, entries_of}
use Rattle.making.specs.Made.{work_with}
use Rattle.journal.specs.Entries.{Entry}
use Rattle.journal.specs.Entries as entry
use Rattle.opening.specs.Tasks.{Task, no_stores, kept_boot, disable_command, disabling_boot, stash, update, cold_boot, extension, invoke}
use Rattle.opening.specs.Values.{stashed_node, derived_node}
use Rattle.opening.specs.Orders.{NodeCommand, derive, extend, rotate, destroy, malformed, named_in}
use Rattle.opening.specs.Works.{invoke_told, with_caller, work_at}
use Rattle.opening.specs.Recorded.{entry_for}

-- a tree command's digest has 48 bytes, its handle 20, and so has a fresh handle that it takes; a child's parent is retained or not
abbrev pub ToldOrder : NodeCommand → List ℕ → Type 0
ToldOrder (derive handle retain type digest) fresh =
    (length handle ≡ handle_bytes) × (length digest ≡ 48) × (length fresh ≡ handle_bytes) × (retain ≤ 1)
ToldOrder (extend handle digest) fresh = (length handle ≡ handle_bytes) × (length digest ≡ 48)
ToldOrder (rotate handle) fresh = (length handle ≡ handle_bytes) × (length fresh ≡ handle_bytes)
ToldOrder (destroy handle) fresh = length handle ≡ handle_bytes
ToldOrder malformed fresh = Unit {0}

-- a task's digests have 48 bytes
abbrev pub Told : Task → Type 0
Told no_stores = Unit {0}
Told kept_boot = Unit {0}
Told disable_command = Unit {0}
Told disabling_boot = Unit {0}
Told (stash x) = length x.digest ≡ 48
Told (update x) = (length x.runtime ≡ 48) × (length x.manifest ≡ 48)
Told (cold_boot x) = (length x.runtime ≡ 48) × (length x.manifest ≡ 48)
Told (extension x) = length x.digest ≡ 48
Told (invoke o) = ToldOrder o.command o.fresh

-- 48 bytes, and those behind them
first : (a b : List ℕ) → length a ≡ 48 → take 48 (a ++ b) ≡ a
first a b e = ap (λ (n : ℕ). take n (a ++ b)) (sym e) ∙ take-append_seam a b

second : (a b : List ℕ) → length a ≡ 48 → length b ≡ 48 → take 48 (drop 48 (a ++ b)) ≡ b
second a b e f =
    ap (λ (n : ℕ). take 48 (drop n (a ++ b))) (sym e) ∙ ap (take 48) (drop-append_seam a b) ∙ ap (take 48) (sym (append-nil b)) ∙ first b [] f

-- ---- a tree command's

-- digest, handle and fresh handle, read from its inputs
module _ (digest handle fresh : List ℕ) (d : length digest ≡ 48) (h : length handle ≡ handle_bytes) (f : length fresh ≡ handle_bytes) where
  told_digest : first_digest (invoke_told digest handle fresh) ≡ digest
  told_digest = first digest (handle ++ (part handle_bytes fresh 0 ++ zeros 8)) d

  same_fresh : part handle_bytes fresh 0 ≡ fresh
  same_fresh = part_within handle_bytes fresh 0 (omega arith) ∙ take_all handle_bytes fresh (omega arith)

  behind : List ℕ
  behind = handle ++ (fresh ++ zeros 8)

  told_second : second_digest (invoke_told digest handle fresh) ≡ behind
  unfolding behind
  told_second =
      ap (λ (l : List ℕ). second_digest (digest ++ (handle ++ (l ++ zeros 8)))) same_fresh
      ∙ second digest (handle ++ (fresh ++ zeros 8)) d
      (length-append handle (fresh ++ zeros 8) ∙ omega (arith, length-append fresh (zeros 8), length_zeros 8))

  told_handle : handle_told (invoke_told digest handle fresh) ≡ handle
  unfolding behind
  told_handle = ap (take handle_bytes) told_second ∙ ap (λ (n : ℕ). take n (handle ++ (fresh ++ zeros 8))) (sym h) ∙ take-append_seam handle (fresh ++ zeros 8)

  told_fresh : fresh_told (invoke_told digest handle fresh) ≡ fresh
  unfolding behind
  told_fresh =
      ap (λ (l : List ℕ). take handle_bytes (drop handle_bytes l)) told_second
      ∙ ap (λ (n : ℕ). take handle_bytes (drop n (handle ++ (fresh ++ zeros 8)))) (sym h)
      ∙ ap (take handle_bytes) (drop-append_seam handle (fresh ++ zeros 8))
      ∙ ap (λ (n : ℕ). take n (fresh ++ zeros 8)) (sym f)
      ∙ take-append_seam fresh (zeros 8)

-- the caller, from the node's words
told_caller : (node : List ℕ) (caller : ℕ) → node_words ≤ length node → caller_told (with_caller node caller) ≡ caller
told_caller node caller l = get_or-set_same node locality_at caller 0 (omega arith)

length_listed : (ks : List ℕ) → node_words ≤ length (ks ++ zeros (node_words - length ks))
length_listed ks = omega (arith, length-append ks (zeros (node_words - length ks)), length_zeros (node_words - length ks))

order_entry : (image : List ℕ) (c : NodeCommand) (fresh : List ℕ) (caller : ℕ) (a : List ℕ) → ToldOrder c fresh
    → entries_of (work_at image (invoke (record { command = c; fresh = fresh; caller = caller })) a)
    ≡ entry_for (invoke (record { command = c; fresh = fresh; caller = caller }))
unfolding entries_of entries_for work_at work_with
order_entry image (derive h zero ty d) f c a t =
    let n : Node = derived_node (named_in (tree_in image) (derive h zero ty d)) f ty d c in
    λ i. entry.derive (told_handle d h f t.1 t.0 t.2 i) 0 (row_type n i) (told_digest d h f t.1 t.0 t.2 i) (told_fresh d h f t.1 t.0 t.2 i)
    (row_locality n i) ∷ []
order_entry image (derive h (suc zero) ty d) f c a t =
    let n : Node = derived_node (named_in (tree_in image) (derive h (suc zero) ty d)) f ty d c in
    λ i. entry.derive (told_handle d h f t.1 t.0 t.2 i) 1 (row_type n i) (told_digest d h f t.1 t.0 t.2 i) (told_fresh d h f t.1 t.0 t.2 i)
    (row_locality n i) ∷ []
order_entry image (derive h (suc (suc r)) ty d) f c a t = absurd (omega (arith, t.3))
order_entry image (extend h d) f c a t =
    let z = length_zeros handle_bytes in
    let row = measurements_row d (extended (bytes48 (cumulative_in image (named_in (tree_in image) (extend h d)))) d) in
    λ i. entry.extend (told_handle d h (zeros handle_bytes) t.1 t.0 z i) (told_digest d h (zeros handle_bytes) t.1 t.0 z i)
    (told_caller row c (omega (arith, length_measurements d (extended (bytes48 (cumulative_in image (named_in (tree_in image) (extend h d)))) d))) i) ∷ []
order_entry image (rotate h) f c a t =
    let z = length_zeros 48 in
    λ i. entry.rotate (told_handle (zeros 48) h f z t.0 t.1 i) (told_fresh (zeros 48) h f z t.0 t.1 i)
    (told_caller (handle_placed f) c (omega (arith, length_placed f)) i) ∷ []
order_entry image (destroy h) f c a t =
    let z = length_zeros 48 in
    let y = length_zeros handle_bytes in
    let ks = freed_by node_count (tree_in image) (named_in (tree_in image) (destroy h)) in
    λ i. entry.destroy (told_handle (zeros 48) h (zeros handle_bytes) z t y i) (told_caller (ks ++ zeros (node_words - length ks)) c (length_listed ks) i) ∷ []
order_entry image malformed f c a t = refl

pub entry_at : (image : List ℕ) (t : Task) (a : List ℕ) → Told t → entries_of (work_at image t a) ≡ entry_for t
unfolding entries_of entries_for work_at work_with
entry_at image no_stores a h = refl
entry_at image kept_boot a h = refl
entry_at image disable_command a h = refl
entry_at image disabling_boot a h = refl
entry_at image (stash x) a h =
    let n : Node = stashed_node (node_with node_count (tree_in image) default_words) x in
    λ i. entry.stash (row_type n i) (first x.digest (zeros 48) h i) (row_svn n i) (row_locality n i) ∷ []
entry_at image (update x) a h = λ i. entry.update (first x.runtime x.manifest h.0 i) (second x.runtime x.manifest h.0 h.1 i) ∷ []
entry_at image (cold_boot x) a h = λ i. entry.cold_boot (first x.runtime x.manifest h.0 i) (second x.runtime x.manifest h.0 h.1 i) ∷ []
entry_at image (invoke o) a h = order_entry image o.command o.fresh o.caller a h
entry_at image (extension x) a h = λ i. entry.extension x.register (first x.digest (zeros 48) h i) ∷ []
