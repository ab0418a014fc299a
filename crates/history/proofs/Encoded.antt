-- The one encoding of a state to words, and what is read from it: mark, attestation, secret, registers, the words of each node, and so the very tree of the
-- ledger's nodes (`tree_read`). Assumes nothing.
use mathlib.Core.Path.{◌≡◌, refl, sym, ap, ◌∙◌, fun_ext}
use Prim.Native.Nat.{ℕ, suc, ◌+◌, ◌*◌, ◌^◌, ◌%◌, ◌/◌, ◌≤◌, ◌<◌}
use native.Mathlib.Omega.{arith}
use native.Mathlib.Decide.{dec_lt}
use mathlib.Core.Bool.{true, false}
use mathlib.Core.List.{List, [], ◌∷◌, ◌++◌, append-nil, map}
use mathlib.Core.Option.{Option, none, some}
use borrow.Author.Tests.{eq-eqb, ne_eqb}
use lib.Dec.{eqb}
use lib.ListN.{length, get_or, length-append, get_or-append, get_or-eq_default}
use lib.Seq.{get_or-append-add}
use Rattle.layout.specs.Sizes.{node_count, node_words, register_count, register_words, registers_at, image_words, mark_at, attestation_at, secret_at, register_at, node_at, handle_at, handle_words, flags_at, current_at, cumulative_at, type_at, locality_at}
use Rattle.layout.specs.Words.{words48, bytes48, part, zeros}
use Rattle.layout.proofs.Bounded.{all_below_law, all_fails}
use Rattle.layout.proofs.Blocks.{Sized, length_flat, get_d_flat, sized_map, length_mapped, get_d_mapped}
use Rattle.layout.proofs.Tab.{length_zeros, get_d_zeros, tab_is}
use Rattle.layout.proofs.Packing.{bytes_words}
use Rattle.sha384.proofs.Sizes.{Bytes}
use Rattle.tree.specs.Tree.{free_place}
use Rattle.tree.specs.Nodes.{word, used, parent, all_zero, place_in, tree_in, cumulative_in}
use Rattle.nodes.specs.Record.{Node, handle_row, place_row, place_of}
use Rattle.nodes.proofs.Rows.{length_handle, length48, length_row, row_first, row_handle, row_flags, row_current, row_cumulative, row_type, row_locality}
use Rattle.opening.specs.Works.{register_in}
use Rattle.history.specs.Ledger.{Chain, Contents, tree_at, register_rows, node_rows, image_of}

-- the sizes of a chain's parts; what is read back as bytes are bytes
pub record Shape (x : Chain) : Type 0 where
  pub registers : length x.registers ≡ register_count
  pub long : (i : ℕ) → i < register_count → length (get_or x.registers i []) ≡ 48
  pub bytes : (i : ℕ) → i < register_count → Bytes (get_or x.registers i [])
  pub nodes : length x.nodes ≡ node_count

-- a word past the first part, and one within it
past : (p q : List ℕ) (n k i : ℕ) → length p ≡ n → i ≡ n + k → get_or (p ++ q) i 0 ≡ get_or q k 0
past p q n k i h e = ap (λ (j : ℕ). get_or (p ++ q) j 0) (omega arith) ∙ get_or-append-add p q k 0

within : (p q : List ℕ) (n i : ℕ) → length p ≡ n → i < n → get_or (p ++ q) i 0 ≡ get_or p i 0
within p q n i h l = get_or-append p q 0 i (omega arith)

-- ---- the image of a state

module _ (mk at : ℕ) (x : Contents) where
  abbrev rows : List ℕ
  rows = register_rows x.chain ++ node_rows x.chain

  unfoldable pub front : List ℕ
  front = mk ∷ at ∷ 0 ∷ 0 ∷ words48 x.secret

  pub length_front : length front ≡ registers_at
  unfolding front
  length_front = ap (λ (n : ℕ). suc (suc (suc (suc n)))) (length48 x.secret)

  pub mark_read : get_or (image_of mk at x) mark_at 0 ≡ mk
  unfolding image_of
  mark_read = refl

  pub attestation_read : get_or (image_of mk at x) attestation_at 0 ≡ at
  unfolding image_of
  attestation_read = refl

  pub secret_read : part register_words (image_of mk at x) secret_at ≡ words48 x.secret
  unfolding image_of part
  secret_read =
      tab_is (λ k. get_or (image_of mk at x) (secret_at + k) 0) (words48 x.secret) register_words (length48 x.secret)
      (λ k l. past (mk ∷ at ∷ 0 ∷ 0 ∷ []) (words48 x.secret ++ rows) secret_at k (secret_at + k) refl refl
      ∙ within (words48 x.secret) rows register_words k (length48 x.secret) l)

pub sized_registers : (x : Chain) → Sized register_words (map words48 x.registers)
sized_registers x = sized_map register_words words48 x.registers length48

pub sized_nodes : (x : Chain) → Sized node_words (map place_row x.nodes)
sized_nodes x = sized_map node_words place_row x.nodes length_row

pub length_registers : (x : Chain) → length x.registers ≡ register_count → length (register_rows x) ≡ register_count * register_words
length_registers x h = length_flat register_words (map words48 x.registers) (sized_registers x) ∙ omega (arith, length_mapped words48 x.registers)

length_nodes : (x : Chain) → length x.nodes ≡ node_count → length (node_rows x) ≡ node_count * node_words
length_nodes x h = length_flat node_words (map place_row x.nodes) (sized_nodes x) ∙ omega (arith, length_mapped place_row x.nodes)

module _ (mk at : ℕ) (x : Contents) (h : Shape x.chain) where
  pub length_image : length (image_of mk at x) ≡ image_words
  unfolding image_of front
  length_image =
      length-append (front mk at x) (register_rows x.chain ++ node_rows x.chain)
      ∙ omega (
        arith,
        length_front mk at x,
        length-append (register_rows x.chain) (node_rows x.chain),
        length_registers x.chain h.registers,
        length_nodes x.chain h.nodes,
      )

  pub register_words_law : (i : ℕ) → i < register_count → part register_words (image_of mk at x) (register_at i) ≡ words48 (get_or x.chain.registers i [])
  unfolding image_of part front
  register_words_law i l =
      tab_is (λ k. get_or (image_of mk at x) (register_at i + k) 0) (words48 (get_or rs i [])) register_words (length48 (get_or rs i []))
      (λ k j. past (front mk at x) (register_rows x.chain ++ node_rows x.chain) registers_at (register_words * i + k) (register_at i + k)
      (length_front mk at x) (omega arith)
      ∙ get_d_flat register_words (map words48 rs) (node_rows x.chain) i k (sized_registers x.chain)
      (omega (arith, length_mapped words48 rs, h.registers)) j
      ∙ ap (λ (r : List ℕ). get_or r k 0) (get_d_mapped words48 rs i [] (omega (arith, h.registers))))
    where
      rs : List (List ℕ)
      rs = x.chain.registers

  pub register_read : (i : ℕ) → i < register_count → register_in (image_of mk at x) i ≡ get_or x.chain.registers i []
  unfolding register_in
  register_read i l =
      ap bytes48 (register_words_law i l) ∙ bytes_words register_words (get_or x.chain.registers i []) (h.long i l) (h.bytes i l)

  word_read : (i j : ℕ) → i < node_count → j < node_words → word (image_of mk at x) i j ≡ get_or (place_row (get_or x.chain.nodes i none)) j 0
  unfolding image_of word front
  word_read i j l b =
      past (front mk at x) (register_rows x.chain ++ node_rows x.chain) registers_at (register_count * register_words + (node_words * i + j)) (node_at i + j)
      (length_front mk at x) (omega arith)
      ∙ past (register_rows x.chain) (node_rows x.chain) (register_count * register_words) (node_words * i + j)
      (register_count * register_words + (node_words * i + j))
      (length_registers x.chain h.registers) refl
      ∙ ap (λ (r : List ℕ). get_or r (node_words * i + j) 0) (sym (append-nil (node_rows x.chain)))
      ∙ get_d_flat node_words (map place_row ns) [] i j (sized_nodes x.chain) (omega (arith, length_mapped place_row ns, h.nodes)) b
      ∙ ap (λ (r : List ℕ). get_or r j 0) (get_d_mapped place_row ns i none (omega (arith, h.nodes)))
    where
      ns : List (Option Node)
      ns = x.chain.nodes

-- ---- the nodes that an image encodes

-- m has the words of each place for a node
abbrev pub Encodes : List ℕ → List (Option Node) → Type 0
Encodes m ns = (i j : ℕ) → i < length ns → j < node_words → word m i j ≡ get_or (place_row (get_or ns i none)) j 0

module _ (m : List ℕ) (ns : List (Option Node)) (r : Encodes m ns) (i : ℕ) (l : i < length ns) where
  said : (s : Option Node) → get_or ns i none ≡ s → (j : ℕ) → j < node_words → word m i j ≡ get_or (place_row s) j 0
  said s e j b = r i j l b ∙ ap (λ (t : Option Node). get_or (place_row t) j 0) e

  -- a free place is all zero
  zero_at : get_or ns i none ≡ none → (j : ℕ) → j < node_words → word m i j ≡ 0
  zero_at e j b = said none e j b ∙ get_d_zeros node_words j b

  module _ (n : Node) (e : get_or ns i none ≡ some n) where
    first_at : word m i 0 ≡ 1 + 2 ^ 16 * n.parent
    first_at = said (some n) e 0 (omega arith) ∙ row_first n

    pub current_at_law : (k : ℕ) → k < register_words → word m i (current_at + k) ≡ get_or (words48 n.current) k 0
    current_at_law k b = said (some n) e (current_at + k) (omega arith) ∙ row_current n k b

    pub cumulative_words : cumulative_in m i ≡ words48 n.cumulative
    unfolding part word
    cumulative_words =
        tab_is (λ k. get_or m (node_at i + cumulative_at + k) 0) (words48 n.cumulative) register_words (length48 n.cumulative)
        (λ k b. ap (λ (j : ℕ). get_or m j 0) (omega arith) ∙ said (some n) e (cumulative_at + k) (omega arith) ∙ row_cumulative n k b)

-- ---- the tree that they make

-- the words of a handle, one by one
handle_is : (m : List ℕ) (i : ℕ) (ws : List ℕ) → length ws ≡ handle_words → ((k : ℕ) → k < handle_words → word m i (handle_at + k) ≡ get_or ws k 0)
    → part handle_words m (node_at i + handle_at) ≡ ws
unfolding part word
handle_is m i ws e h = tab_is (λ k. get_or m (node_at i + handle_at + k) 0) ws handle_words e (λ k l. ap (λ (j : ℕ). get_or m j 0) (omega arith) ∙ h k l)

-- a place of which every word is zero
zero_place : (m : List ℕ) (i : ℕ) → ((j : ℕ) → j < node_words → word m i j ≡ 0) → place_in m i ≡ free_place
unfolding used parent all_zero
zero_place m i h =
    let first : word m i 0 ≡ 0 = h 0 (omega arith) in
    let u : used m i ≡ false = ap (λ (w : ℕ). eqb (w % 2 ^ 16) 1) first in
    let z : all_zero m i ≡ true = all_below_law (λ j. eqb (word m i j) 0) node_words (λ j l. eq-eqb (word m i j) 0 (h j l)) in
    let p : parent m i ≡ 0 = ap (λ (w : ℕ). w / 2 ^ 16) first in
    let a = handle_is m i (zeros handle_words) (length_zeros handle_words) (λ k l. h (handle_at + k) (omega arith) ∙ sym (get_d_zeros handle_words k l)) in
    let f = h flags_at (omega arith) in
    let t = h type_at (omega arith) in
    let c = h locality_at (omega arith) in
    λ k. record { used = u k; blank = z k; parent = p k; handle = a k; flags = f k; type = t k; locality = c k }

place_read : (m : List ℕ) (ns : List (Option Node)) → Encodes m ns → (i : ℕ) → i < length ns → (s : Option Node) → get_or ns i none ≡ s → place_in m i ≡ place_of s
unfolding used parent all_zero
place_read m ns r i l none e = zero_place m i (zero_at m ns r i l e)
place_read m ns r i l (some n) e =
    let first = first_at m ns r i l n e in
    let u : used m i ≡ true = eq-eqb (word m i 0 % 2 ^ 16) 1 (omega arith) in
    let z : all_zero m i ≡ false = all_fails (λ j. eqb (word m i j) 0) 0 node_words (ne_eqb (word m i 0) 0 (λ q. omega arith)) (omega arith) in
    let p : parent m i ≡ n.parent = omega arith in
    let a = handle_is m i (handle_row n.handle) (length_handle n.handle)
    (λ k b. said m ns r i l (some n) e (handle_at + k) (omega arith) ∙ row_handle n k b) in
    let f = said m ns r i l (some n) e flags_at (omega arith) ∙ row_flags n in
    let t = said m ns r i l (some n) e type_at (omega arith) ∙ row_type n in
    let c = said m ns r i l (some n) e locality_at (omega arith) ∙ row_locality n in
    λ k. record { used = u k; blank = z k; parent = p k; handle = a k; flags = f k; type = t k; locality = c k }

-- past the last node an image has no word
past_read : (m : List ℕ) → length m ≡ image_words → (i : ℕ) → node_count ≤ i → place_in m i ≡ free_place
past_read m e i l = zero_place m i (λ j b. unfold word in (get_or-eq_default m 0 {n = node_at i + j} (omega arith)))

module _ (mk at : ℕ) (x : Contents) (h : Shape x.chain) where
  pub encodes : Encodes (image_of mk at x) x.chain.nodes
  encodes i j l b = word_read mk at x h i j (omega (arith, h.nodes)) b

  -- the rules see the same nodes in the image and in the ledger
  pub tree_read : tree_in (image_of mk at x) ≡ tree_at x.chain
  unfolding tree_in
  tree_read = fun_ext (λ i. elim (dec_lt i node_count) [
    | yes l ↦ place_read (image_of mk at x) x.chain.nodes encodes i (omega (arith, h.nodes)) (get_or x.chain.nodes i none) refl
    | no g ↦ past_read (image_of mk at x) (length_image mk at x h) i (omega arith)
        ∙ ap place_of (sym (get_or-eq_default x.chain.nodes none {n = i} (omega (arith, h.nodes))))
  ])
