-- The stores of a destroy: one run that clears node after node, on the image of a state. Assumes nothing.
use mathlib.Core.Path.{◌≡◌, refl, sym, ap, ◌∙◌}
use Prim.Native.Nat.{ℕ, zero, suc, ◌+◌, ◌*◌, ◌/◌, ◌%◌, ◌<◌}
use native.Mathlib.Nat.{add-zero, zero-add, mul-suc}
use native.Mathlib.Omega.{arith}
use mathlib.Core.List.{List, [], ◌∷◌, ◌++◌, append_assoc}
use mathlib.Core.Option.{Option, none}
use lib.ListN.{length, get_or, set}
use lib.Seq.{sets}
use Rattle.layout.specs.Sizes.{node_count, node_words, node_at}
use Rattle.layout.specs.Words.{zeros}
use Rattle.layout.proofs.Blocks.{sets_whole}
use Rattle.layout.proofs.Tab.{length_zeros}
use Rattle.nodes.specs.Record.{Node, place_row}
use Rattle.nodes.proofs.Rows.{length_row}
use Rattle.table.specs.Table.{put, Run, fill, clear}
use Rattle.table.specs.declared.Put.{Put}
use Rattle.work.proofs.Plans.{apply, spread, stores_in, run_zeros}
use Rattle.history.specs.Ledger.{Contents, image_of}
use Rattle.history.proofs.Stores.{with_node, Counted, counted_node, sets_node}

-- ---- nodes freed one after another

abbrev pub freed_all : List ℕ → List (Option Node) → List (Option Node)
freed_all [] ns = ns
freed_all (k ∷ ks) ns = freed_all ks (set ns k none)

abbrev pub with_nodes : Contents → List (Option Node) → Contents
with_nodes x ns = record { secret = x.secret; chain = record { registers = x.chain.registers; nodes = ns } }

-- ---- a run in two parts

spread_add : (f : ℕ → Put) (i a b : ℕ) → spread f i (a + b) ≡ spread f i a ++ spread f (i + a) b
unfolding spread
spread_add f i zero b = (λ k. spread f (sym (add-zero i) k) (zero-add b k))
spread_add f i (suc a) b =
    ap (spread f i) (more a b) ∙ ap (λ (r : List Put). f i ∷ r) (spread_add f (suc i) a b ∙ ap (λ (k : ℕ). spread f (suc i) a ++ spread f k b) (on i a))
  where
    more : (a b : ℕ) → suc a + b ≡ suc (a + b)
    more a b = omega arith

    on : (i a : ℕ) → suc i + a ≡ i + suc a
    on i a = omega arith

spread_same : (f g : ℕ → Put) (i j n : ℕ) → ((k : ℕ) → k < n → f (i + k) ≡ g (j + k)) → spread f i n ≡ spread g j n
unfolding spread
spread_same f g i j zero h = refl
spread_same f g i j (suc n) h = both (spread_same f g (suc i) (suc j) n (λ k l. next f i k ∙ h (suc k) (omega arith) ∙ sym (next g j k)))
  where
    next : (f : ℕ → Put) (i k : ℕ) → f (suc i + k) ≡ f (i + suc k)
    next f i k = ap f (on i k)
      where
        on : (i k : ℕ) → suc i + k ≡ i + suc k
        on i k = omega arith

    both : spread f (suc i) n ≡ spread g (suc j) n → f i ∷ spread f (suc i) n ≡ g j ∷ spread g (suc j) n
    both e = let first : f i ≡ g j = ap f (sym (add-zero i)) ∙ h 0 (omega arith) ∙ ap g (add-zero j) in λ k. first k ∷ e k

-- the run from the list's index j on, over r nodes
abbrev clear_from : List ℕ → ℕ → ℕ → Run
clear_from nodes j r = record { count = node_words * r; store = λ k. put (node_at (get_or nodes (j + k / node_words) 0) + k % node_words) 0 }

-- the first node, and the others
clear_more : (nodes : List ℕ) (j r : ℕ) (rs : List Run)
    → stores_in (clear_from nodes j (suc r) ∷ rs) ≡ stores_in (fill (node_at (get_or nodes j 0)) node_words 0 ∷ clear_from nodes (suc j) r ∷ rs)
clear_more nodes j r rs =
    ap (λ (p : List Put). p ++ stores_in rs)
    (ap (spread f 0) (mul-suc node_words r ∙ omega arith) ∙ spread_add f 0 node_words (node_words * r) ∙ (λ k. one_node k ++ others k))
    ∙ append_assoc (spread (fill (node_at (get_or nodes j 0)) node_words 0).store 0 node_words) (spread (clear_from nodes (suc j) r).store 0 (node_words * r))
    (stores_in rs)
  where
    f : ℕ → Put
    f = (clear_from nodes j (suc r)).store

    one_node : spread f 0 node_words ≡ spread (fill (node_at (get_or nodes j 0)) node_words 0).store 0 node_words
    one_node =
        spread_same f (fill (node_at (get_or nodes j 0)) node_words 0).store 0 0 node_words
        (λ k l.
        let a : j + (0 + k) / node_words ≡ j = omega arith in
        let b : (0 + k) % node_words ≡ 0 + k = omega arith in
        λ i. put (node_at (get_or nodes (a i) 0) + b i) 0)

    others : spread f (0 + node_words) (node_words * r) ≡ spread (clear_from nodes (suc j) r).store 0 (node_words * r)
    others =
        spread_same f (clear_from nodes (suc j) r).store (0 + node_words) 0 (node_words * r)
        (λ k l.
        let a : j + (0 + node_words + k) / node_words ≡ suc j + (0 + k) / node_words = omega arith in
        let b : (0 + node_words + k) % node_words ≡ (0 + k) % node_words = omega arith in
        λ i. put (node_at (get_or nodes (a i) 0) + b i) 0)

clear_first : (count : ℕ) (nodes : List ℕ) (rs : List Run) → stores_in (clear count nodes ∷ rs) ≡ stores_in (clear_from nodes 0 count ∷ rs)
clear_first count nodes rs =
    ap (λ (p : List Put). p ++ stores_in rs)
    (spread_same (clear count nodes).store (clear_from nodes 0 count).store 0 0 (node_words * count)
    (λ k l. ap (λ (j : ℕ). put (node_at (get_or nodes j 0) + (0 + k) % node_words) 0) (sym (zero-add ((0 + k) / node_words)))))

-- ---- on the image of a state

-- every index is below n
abbrev pub Below : ℕ → List ℕ → Type 0
Below n [] = Unit {0}
Below n (k ∷ ks) = (k < n) × Below n ks

-- the nodes ks stand in the list from its index j on
clears : (mk att : ℕ) (rs : List Run) (nodes : List ℕ) (ks : List ℕ) (j : ℕ) (x : Contents) → Counted x.chain → Below node_count ks
    → ((i : ℕ) → i < length ks → get_or nodes (j + i) 0 ≡ get_or ks i 0)
    → apply (stores_in (clear_from nodes j (length ks) ∷ rs)) (image_of mk att x)
    ≡ apply (stores_in rs) (image_of mk att (with_nodes x (freed_all ks x.chain.nodes)))
unfolding spread
clears mk att rs nodes [] j x c b h = refl
clears mk att rs nodes (k ∷ ks) j x c b h =
    ap (λ (p : List Put). apply p (image_of mk att x))
    (clear_more nodes j (length ks) rs ∙ ap (λ (i : ℕ). stores_in (fill (node_at i) node_words 0 ∷ clear_from nodes (suc j) (length ks) ∷ rs)) here)
    ∙ run_zeros (clear_from nodes (suc j) (length ks) ∷ rs) (image_of mk att x) (node_at k) node_words
    ∙ ap (apply (stores_in (clear_from nodes (suc j) (length ks) ∷ rs)))
    (ap (λ (i : ℕ). sets (image_of mk att x) i (zeros node_words)) (sym (add-zero (node_at k)))
    ∙ sets_node mk att x c k 0 (zeros node_words) none b.0 (omega (arith, length_zeros node_words))
    (sets_whole (place_row (get_or x.chain.nodes k none)) (zeros node_words)
    (length_row (get_or x.chain.nodes k none) ∙ sym (length_zeros node_words))))
    ∙ clears mk att rs nodes ks (suc j) (with_node x k none) (counted_node x.chain k none c) b.1
    (λ i l. ap (λ (m : ℕ). get_or nodes m 0) (on j i) ∙ h (suc i) (omega arith))
  where
    here : get_or nodes j 0 ≡ k
    here = ap (λ (m : ℕ). get_or nodes m 0) (sym (add-zero j)) ∙ h 0 (omega arith)

    on : (j i : ℕ) → suc j + i ≡ j + suc i
    on j i = omega arith

pub run_clear : (mk att : ℕ) (rs : List Run) (nodes : List ℕ) (ks : List ℕ) (x : Contents) → Counted x.chain → Below node_count ks
    → ((i : ℕ) → i < length ks → get_or nodes i 0 ≡ get_or ks i 0)
    → apply (stores_in (clear (length ks) nodes ∷ rs)) (image_of mk att x)
    ≡ apply (stores_in rs) (image_of mk att (with_nodes x (freed_all ks x.chain.nodes)))
run_clear mk att rs nodes ks x c b h =
    ap (λ (p : List Put). apply p (image_of mk att x)) (clear_first (length ks) nodes rs)
    ∙ clears mk att rs nodes ks 0 x c b (λ i l. ap (λ (m : ℕ). get_or nodes m 0) (zero-add i) ∙ h i l)
