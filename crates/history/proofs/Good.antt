-- What holds of the chain after every history: sizes, a well-formed tree whose root has PCR3 as its current measurement, and cumulative measurements of 48
-- bytes. A cold boot makes it; a new value of a register other than PCR3, a new node, another handle, other measurements of a node that is not the root,
-- an update and freed nodes keep it, by the laws of any well-formed tree. Assumes nothing.
use mathlib.Core.Path.{◌≡◌, refl, sym, ap, ◌∙◌, subst, fun_ext}
use mathlib.Core.Logic.{◌≢◌}
use Prim.Native.Nat.{ℕ, zero, suc, ◌+◌, ◌-◌, ◌<◌}
use native.Mathlib.Omega.{arith}
use native.Mathlib.Decide.{ℕ_discrete, dec_lt}
use mathlib.Core.Bool.{true, false, true≢false}
use mathlib.Core.List.{List, []}
use mathlib.Core.Option.{Option, none, some, none-ne-some}
use borrow.Author.Tests.{eq-eqb}
use lib.Dec.{eqb}
use lib.Seq.{get_or-set_same, get_or-set_other}
use lib.ListN.{length, get_or, set, replicate, length-set, length-replicate, get_or-replicate, get_or-eq_default}
use Rattle.layout.specs.Sizes.{node_count, register_count, register_words, register_at, current_at, current_register, journey_register, stash_register}
use Rattle.layout.specs.Words.{words48, bytes48, zeros}
use Rattle.layout.proofs.Blocks.{get_d_kept}
use Rattle.layout.proofs.Bounded.{all_below_law}
use Rattle.layout.proofs.Packing.{get_d_part, bytes_words}
use Rattle.layout.proofs.Tab.{length_zeros}
use Rattle.sha384.proofs.Sizes.{Bytes, Measure, measure_extended, measure_each}
use Rattle.tree.specs.Nodes.{word, tree_in, cumulative_in}
use Rattle.tree.specs.Tree.{Place, Tree, default_words, retired_words, same_handle, is_root, root_ok, well_formed, root_in, node_with, lowest_free}
use Rattle.nodes.specs.Record.{Node, default_handle, retired_handle, handle_row, new_node, with_handle, place_of, tree_of}
use Rattle.tree.proofs.Ways.{leads_root}
use Rattle.tree.proofs.Rooted.{placed, placed_same, placed_other, root_used}
use Rattle.nodes.proofs.Rows.{default_row, retired_row}
use Rattle.tree.proofs.Handles.{same_refl}
use Rattle.tree.proofs.WellFormed.{Formed, default_live, has_used, with_there, with_else, others_lack, rehandled, stashed, formed_true, formed_rotated, formed_more, formed_stashed, top_found, free_there}
use Rattle.opening.specs.Values.{root_node}
use Rattle.opening.specs.Tasks.{BootInputs, Measurement, stash, update, cold_boot}
use Rattle.opening.specs.Openings.{root_matches}
use Rattle.history.specs.Ledger.{Chain, Contents, tree_at, changed, renewed, changed_at, extended_at, next_chain, image_of}
use Rattle.history.proofs.Encoded.{Shape, register_words_law, current_at_law, cumulative_words, encodes, tree_read}

-- the current measurement of a place for a node
abbrev current_of : Option Node → List ℕ
current_of none = []
current_of (some n) = n.current

-- ---- measurements

bytes_zeros : (n : ℕ) → Bytes (zeros n)
unfolding zeros
bytes_zeros zero i = omega arith
bytes_zeros (suc n) zero = omega arith
bytes_zeros (suc n) (suc i) = bytes_zeros n i

-- n registers of 48 bytes
abbrev Measures : ℕ → List (List ℕ) → Type 0
Measures n l = (length l ≡ n) × ((i : ℕ) → i < n → Measure (get_or l i []))

measures_zero : (n : ℕ) → Measures n (replicate n (zeros 48))
measures_zero n = (length-replicate n (zeros 48), λ i l. rw (get_or-replicate n i (zeros 48) [] l) (length_zeros 48, bytes_zeros 48))

measures_set : (n : ℕ) (l : List (List ℕ)) (k : ℕ) (v : List ℕ) → Measure v → Measures n l → Measures n (set l k v)
measures_set n l k v m h = (
  length-set l k v ∙ h.0,
  λ i c. elim (ℕ_discrete i k) [
    | yes z ↦ rw (z, get_or-set_same l k v [] (omega (arith, h.0))) m
    | no z ↦ rw (get_or-set_other l k i v [] z) (h.1 i c)
  ],
)

measures_of : (x : Chain) → Shape x → Measures register_count x.registers
measures_of x h = (h.registers, λ i l. (h.long i l, h.bytes i l))

shape_of : (x : Chain) → Measures register_count x.registers → length x.nodes ≡ node_count → Shape x
shape_of x h e = record { registers = h.0; long = λ i l. (h.1 i l).0; bytes = λ i l. (h.1 i l).1; nodes = e }

-- the cumulative measurement of every node
abbrev pub Cumulatives : List (Option Node) → Type 0
Cumulatives ns = (i : ℕ) (n : Node) → get_or ns i none ≡ some n → Measure n.cumulative

abbrev pub MeasureOf : Option Node → Type 0
MeasureOf none = Unit {0}
MeasureOf (some n) = Measure n.cumulative

pub cumulatives_set : (ns : List (Option Node)) (k : ℕ) (s : Option Node) → Cumulatives ns → MeasureOf s → Cumulatives (set ns k s)
cumulatives_set ns k s c h i n e = elim (ℕ_discrete i k) [
  | yes z ↦ elim (dec_lt k (length ns)) [
    | yes l ↦ subst MeasureOf (sym (get_or-set_same ns k s none l) ∙ ap (λ (j : ℕ). get_or (set ns k s) j none) (sym z) ∙ e) h
    | no g ↦ absurd (none-ne-some n (sym (get_or-eq_default (set ns k s) none {n = i} (rw length-set (omega arith))) ∙ e))
  ]
  | no z ↦ c i n (sym (get_or-set_other ns k i s none z) ∙ e)
]

-- of a place that was changed, where the change keeps or makes it
measure_changed : (f : Node → Node) (s : Option Node) → ((n : Node) → s ≡ some n → Measure (f n).cumulative) → MeasureOf (changed f s)
measure_changed f none h = tt
measure_changed f (some n) h = h n refl

-- ---- what holds of every chain

-- top is the root's index
pub record Good (x : Chain) : Type 0 where
  pub shape : Shape x
  pub top : ℕ
  pub formed : Formed node_count (tree_at x) top
  pub journey : current_of (get_or x.nodes top none) ≡ get_or x.registers journey_register []
  pub cumulatives : Cumulatives x.nodes

-- other nodes, of which the root is as it was
pub good_nodes : (x : Chain) (g : Good x) (ns : List (Option Node)) → length ns ≡ node_count → Formed node_count (tree_of ns) g.top
    → get_or ns g.top none ≡ get_or x.nodes g.top none → Cumulatives ns → Good (record { registers = x.registers; nodes = ns })
good_nodes x g ns n f e c =
    record {
      shape = shape_of _ (measures_of x g.shape) n;
      top = g.top;
      formed = f;
      journey = ap current_of e ∙ g.journey;
      cumulatives = c;
    }

-- ---- the tree of changed nodes

tree_set : (ns : List (Option Node)) (k : ℕ) (s : Option Node) → k < length ns → tree_of (set ns k s) ≡ placed k (place_of s) (tree_of ns)
tree_set ns k s l = fun_ext (λ i. elim (ℕ_discrete i k) [
  | yes e ↦ ap place_of (ap (λ (j : ℕ). get_or (set ns k s) j none) e ∙ get_or-set_same ns k s none l)
      ∙ sym (ap (placed k (place_of s) (tree_of ns)) e ∙ placed_same k (place_of s) (tree_of ns))
  | no z ↦ ap place_of (get_or-set_other ns k i s none z) ∙ sym (placed_other k (place_of s) (tree_of ns) i z)
])

-- a place that looks as before
placed_self : (k : ℕ) (t : Tree) → placed k (t k) t ≡ t
placed_self k t = fun_ext (λ i. elim (ℕ_discrete i k) [
  | yes e ↦ ap (placed k (t k) t) e ∙ placed_same k (t k) t ∙ ap t (sym e)
  | no z ↦ placed_other k (t k) t i z
])

placed_swap : (h k : ℕ) (p q : Place) (t : Tree) → h ≢ k → placed h p (placed k q t) ≡ placed k q (placed h p t)
placed_swap h k p q t z = fun_ext (λ i. elim (ℕ_discrete i h) [
  | yes e ↦ ap (placed h p (placed k q t)) e
      ∙ placed_same h p (placed k q t)
      ∙ sym (placed_same h p t)
      ∙ sym (placed_other k q (placed h p t) h z)
      ∙ ap (placed k q (placed h p t)) (sym e)
  | no w ↦ placed_other h p (placed k q t) i w ∙ elim (ℕ_discrete i k) [
    | yes e ↦ ap (placed k q t) e ∙ placed_same k q t ∙ sym (placed_same k q (placed h p t)) ∙ ap (placed k q (placed h p t)) (sym e)
    | no v ↦ placed_other k q t i v ∙ sym (placed_other h p t i w) ∙ sym (placed_other k q (placed h p t) i v)
  ]
])

-- ---- after a cold boot

blank_place : (n i : ℕ) → ◌≡◌ {A = Option Node} (get_or (replicate n none) i none) none
blank_place zero i = refl
blank_place (suc n) zero = refl
blank_place (suc n) (suc i) = blank_place n i

module _ (n : ℕ) (first : 0 < n) (journey : List ℕ) where
  abbrev cold_nodes : List (Option Node)
  cold_nodes = set (replicate n none) 0 (some (root_node journey))

  length_cold : length cold_nodes ≡ n
  length_cold = length-set (replicate n none) 0 (some (root_node journey)) ∙ length-replicate {A = Option Node} n none

  cold_root : get_or cold_nodes 0 none ≡ some (root_node journey)
  cold_root = get_or-set_same (replicate n none) 0 (some (root_node journey)) none (rw (length-replicate {A = Option Node} n none) first)

  cold_else : (i : ℕ) → i ≢ 0 → get_or cold_nodes i none ≡ none
  cold_else i z = get_or-set_other (replicate n none) 0 i (some (root_node journey)) none z ∙ blank_place n i

  cold_used : (i : ℕ) → (tree_of cold_nodes i).used ≡ true → i ≡ 0
  cold_used i u = elim (ℕ_discrete i 0) [ yes z ↦ z | no z ↦ absurd (true≢false (sym u ∙ ap (λ (s : Option Node). (place_of s).used) (cold_else i z))) ]

  cold_is_root : is_root (tree_of cold_nodes 0) ≡ true
  unfolding is_root
  cold_is_root = ap (λ (s : Option Node). is_root (place_of s)) cold_root

  pub formed_cold : Formed n (tree_of cold_nodes) 0
  unfolding is_root root_ok
  formed_cold =
      record {
        rooted =
            record {
              below = first;
              root = cold_is_root;
              kind = ap (λ (s : Option Node). root_ok (place_of s)) cold_root;
              child = λ i l u z. absurd (z (cold_used i u));
              way = λ i l u. leads_root n (tree_of cold_nodes) (n - 1) i (ap (λ (j : ℕ). is_root (tree_of cold_nodes j)) (cold_used i u) ∙ cold_is_root);
            };
        apart = λ i j l m z u v live. absurd (z (cold_used i u ∙ sym (cold_used j v)));
        blank = λ i l u. elim (ℕ_discrete i 0) [
          | yes z ↦ absurd (true≢false (sym (ap (λ (j : ℕ). (tree_of cold_nodes j).used) z ∙ ap (λ (s : Option Node). (place_of s).used) cold_root) ∙ u))
          | no z ↦ ap (λ (s : Option Node). (place_of s).blank) (cold_else i z)
        ];
      }

-- PCR2 and PCR3 may begin with any measurement
good_begun : (z : List ℕ) → Measure z
    → Good (record {
      registers = set (set (replicate register_count (zeros 48)) current_register z) journey_register z;
      nodes = set (replicate node_count none) 0 (some (root_node z));
    })
good_begun z m =
    record {
      shape =
          shape_of _
          (measures_set register_count (set (replicate register_count (zeros 48)) current_register z) journey_register z m
          (measures_set register_count (replicate register_count (zeros 48)) current_register z m (measures_zero register_count)))
          (length_cold node_count (omega arith) z);
      top = 0;
      formed = formed_cold node_count (omega arith) z;
      journey =
          ap current_of (cold_root node_count (omega arith) z)
          ∙ sym (get_or-set_same (set (replicate register_count (zeros 48)) current_register z) journey_register z []
          (rw (length-set, length-replicate register_count (zeros 48)) (omega arith)));
      cumulatives =
          cumulatives_set (replicate node_count none) 0 (some (root_node z)) (λ i n e. absurd (none-ne-some n (sym (blank_place node_count i) ∙ e)))
          (measure_extended (zeros 48) z);
    }

pub good_cold : (y : Chain) (b : BootInputs) → Good (next_chain y (cold_boot b))
unfolding next_chain
good_cold y b = good_begun _ (measure_each _ _ _)

-- ---- the root, where the search finds it, and any used node

used_place : (s : Option Node) → (place_of s).used ≡ true → (n : Node) × (s ≡ some n)
used_place none u = absurd (true≢false (sym u))
used_place (some n) u = (n, refl)

pub node_at_law : (x : Chain) (i : ℕ) → (tree_at x i).used ≡ true → (n : Node) × (get_or x.nodes i none ≡ some n)
node_at_law x i u = used_place (get_or x.nodes i none) u

module _ (x : Chain) (g : Good x) where
  pub root_is : root_in node_count (tree_at x) ≡ g.top
  root_is = top_found node_count (omega arith) (tree_at x) g.top g.formed

  pub root_below : root_in node_count (tree_at x) < node_count
  root_below = rw root_is g.formed.rooted.below

  pub root_node_law : (n : Node) × (get_or x.nodes (root_in node_count (tree_at x)) none ≡ some n)
  root_node_law = rw root_is (used_place (get_or x.nodes g.top none) (root_used (tree_at x g.top) g.formed.rooted.root))

  pub formed_good : well_formed node_count (tree_at x) ≡ true
  formed_good = formed_true node_count (omega arith) (tree_at x) g.top g.formed

  -- a node that is not a root is not the root
  pub top_else : (i : ℕ) → is_root (tree_at x i) ≡ false → g.top ≢ i
  top_else i e z = true≢false (sym g.formed.rooted.root ∙ ap (λ (j : ℕ). is_root (tree_at x j)) z ∙ e)

-- a free place is no used node's
pub free_apart : (x : Chain) (i : ℕ) → (tree_at x i).used ≡ true → lowest_free node_count (tree_at x) < node_count → i ≢ lowest_free node_count (tree_at x)
free_apart x i u room z = true≢false (sym u ∙ ap (λ (j : ℕ). (tree_at x j).used) z ∙ free_there node_count (tree_at x) room)

-- ---- a register other than PCR3 may become any measurement

pub good_register : (x : Chain) (i : ℕ) (v : List ℕ) → Measure v → journey_register ≢ i → Good x → Good (record { registers = set x.registers i v; nodes = x.nodes })
good_register x i v m apart g =
    record {
      shape = shape_of _ (measures_set register_count x.registers i v m (measures_of x g.shape)) g.shape.nodes;
      top = g.top;
      formed = g.formed;
      journey = g.journey ∙ sym (get_or-set_other x.registers i journey_register v [] apart);
      cumulatives = g.cumulatives;
    }

-- ---- a node changed: its handle, or its measurements

current_changed : (f : Node → Node) → ((n : Node) → (f n).current ≡ n.current) → (s : Option Node) → current_of (changed f s) ≡ current_of s
current_changed f h none = refl
current_changed f h (some n) = h n

-- a used node with another handle
place_rehandled : (h : List ℕ) (s : Option Node) → (place_of s).used ≡ true → place_of (changed (with_handle h) s) ≡ rehandled (handle_row h) (place_of s)
place_rehandled h none u = absurd (true≢false (sym u))
place_rehandled h (some n) u = refl

tree_rehandled : (ns : List (Option Node)) (i : ℕ) (h : List ℕ) → i < length ns → (tree_of ns i).used ≡ true
    → tree_of (changed_at (with_handle h) ns i) ≡ placed i (rehandled (handle_row h) (tree_of ns i)) (tree_of ns)
tree_rehandled ns i h l u =
    tree_set ns i (changed (with_handle h) (get_or ns i none)) l ∙ ap (λ (p : Place). placed i p (tree_of ns)) (place_rehandled h (get_or ns i none) u)

-- other measurements change nothing that the rules see
place_renewed : (d : List ℕ) (s : Option Node) → place_of (changed (renewed d) s) ≡ place_of s
place_renewed d none = refl
place_renewed d (some n) = refl

tree_renewed : (ns : List (Option Node)) (i : ℕ) (d : List ℕ) → i < length ns → tree_of (changed_at (renewed d) ns i) ≡ tree_of ns
tree_renewed ns i d l =
    tree_set ns i (changed (renewed d) (get_or ns i none)) l
    ∙ ap (λ (p : Place). placed i p (tree_of ns)) (place_renewed d (get_or ns i none))
    ∙ placed_self i (tree_of ns)

-- a used node gets a handle that no other has
pub good_rotated : (x : Chain) (i : ℕ) (h : List ℕ) → Good x → i < node_count → (tree_at x i).used ≡ true
    → ((j : ℕ) → j < node_count → (tree_at x j).used ≡ true → same_handle (tree_at x j).handle (handle_row h) ≡ false)
    → Good (record { registers = x.registers; nodes = changed_at (with_handle h) x.nodes i })
good_rotated x i h g l u fresh =
    record {
      shape = shape_of _ (measures_of x g.shape) (length-set x.nodes i _ ∙ g.shape.nodes);
      top = g.top;
      formed =
          subst (λ (t : Tree). Formed node_count t g.top) (sym (tree_rehandled x.nodes i h (omega (arith, g.shape.nodes)) u))
          (formed_rotated node_count (tree_at x) g.top g.formed i (handle_row h) (λ j b z v. fresh j b v));
      journey =
          get_d_kept current_of x.nodes i g.top (changed (with_handle h) (get_or x.nodes i none)) none
          (current_changed (with_handle h) (λ n. refl) (get_or x.nodes i none))
          ∙ g.journey;
      cumulatives =
          cumulatives_set x.nodes i (changed (with_handle h) (get_or x.nodes i none)) g.cumulatives
          (measure_changed (with_handle h) (get_or x.nodes i none) (λ n e. g.cumulatives i n e));
    }

-- a node that is not the root gets other measurements
pub good_extended : (x : Chain) (i : ℕ) (d : List ℕ) → Good x → i < node_count → is_root (tree_at x i) ≡ false
    → Good (record { registers = x.registers; nodes = changed_at (renewed d) x.nodes i })
good_extended x i d g l below =
    record {
      shape = shape_of _ (measures_of x g.shape) (length-set x.nodes i _ ∙ g.shape.nodes);
      top = g.top;
      formed = subst (λ (t : Tree). Formed node_count t g.top) (sym (tree_renewed x.nodes i d (omega (arith, g.shape.nodes)))) g.formed;
      journey = ap current_of (get_or-set_other x.nodes i g.top (changed (renewed d) (get_or x.nodes i none)) none (top_else x g i below)) ∙ g.journey;
      cumulatives =
          cumulatives_set x.nodes i (changed (renewed d) (get_or x.nodes i none)) g.cumulatives
          (measure_changed (renewed d) (get_or x.nodes i none) (λ n e. measure_extended _ _));
    }

-- ---- a node more, below a used one, whatever is measured: type, locality and svn are free

module _ (x : Chain) (b : ℕ) (handle current cumulative : List ℕ) (type locality svn : ℕ) (measure : Measure cumulative) (g : Good x) (there : b < node_count)
    (up : (tree_at x b).used ≡ true) (room : lowest_free node_count (tree_at x) < node_count) where
  k : ℕ
  k = lowest_free node_count (tree_at x)

  child : Node
  child = new_node b handle 0 current cumulative type locality svn

  old : Option Node
  old = changed (with_handle retired_handle) (get_or x.nodes b none)

  tree_grown : tree_of (set x.nodes k (some child)) ≡ placed k (place_of (some child)) (tree_at x)
  unfolding k
  tree_grown = tree_set x.nodes k (some child) (omega (arith, g.shape.nodes))

  top_kept : current_of (get_or (set x.nodes k (some child)) g.top none) ≡ current_of (get_or x.nodes g.top none)
  unfolding k
  top_kept =
      ap current_of
      (get_or-set_other x.nodes k g.top (some child) none
      (free_apart x g.top (root_used (tree_at x g.top) g.formed.rooted.root) room))

  cumulatives_grown : Cumulatives (set x.nodes k (some child))
  unfolding child
  cumulatives_grown = cumulatives_set x.nodes k (some child) g.cumulatives measure

  -- with a handle that no node has
  grown_here : ((j : ℕ) → j < node_count → (tree_at x j).used ≡ true → same_handle (tree_at x j).handle (handle_row handle) ≡ false)
      → Good (record { registers = x.registers; nodes = set x.nodes k (some child) })
  unfolding k child
  grown_here fresh =
      record {
        shape = shape_of _ (measures_of x g.shape) (length-set x.nodes k (some child) ∙ g.shape.nodes);
        top = g.top;
        formed =
            subst (λ (t : Tree). Formed node_count t g.top) (sym tree_grown)
            (formed_more node_count (tree_at x) g.top g.formed k (place_of (some child)) room (free_there node_count (tree_at x) room) refl refl there up
            (λ j l z v. fresh j l v));
        journey = top_kept ∙ g.journey;
        cumulatives = cumulatives_grown;
      }

  tree_replaced : tree_of (set (set x.nodes k (some child)) b old) ≡ stashed b k (place_of (some child)) (tree_at x)
  unfolding k old
  tree_replaced =
      tree_set (set x.nodes k (some child)) b old (rw length-set (omega (arith, g.shape.nodes)))
      ∙ ap (placed b (place_of old)) tree_grown
      ∙ placed_swap b k (place_of old) (place_of (some child)) (tree_at x) (free_apart x b up room)
      ∙ ap (λ (p : Place). placed k (place_of (some child)) (placed b p (tree_at x)))
      (place_rehandled retired_handle (get_or x.nodes b none) up ∙ ap (λ (w : List ℕ). rehandled w (tree_at x b)) retired_row)

  -- with a live handle that no node has but the one above, which is retired
  replaced_here : same_handle (handle_row handle) retired_words ≡ false
      → ((j : ℕ) → j < node_count → j ≢ b → (tree_at x j).used ≡ true → same_handle (tree_at x j).handle (handle_row handle) ≡ false)
      → Good (record { registers = x.registers; nodes = set (set x.nodes k (some child)) b old })
  unfolding k child old
  replaced_here live fresh =
      record {
        shape =
            shape_of _ (measures_of x g.shape)
            (length-set (set x.nodes k (some child)) b old ∙ length-set x.nodes k (some child) ∙ g.shape.nodes);
        top = g.top;
        formed =
            subst (λ (t : Tree). Formed node_count t g.top) (sym tree_replaced)
            (formed_stashed node_count (tree_at x) g.top g.formed b k (place_of (some child)) room (free_there node_count (tree_at x) room) refl refl refl there
            up live fresh);
        journey =
            get_d_kept current_of (set x.nodes k (some child)) b g.top old none
            (current_changed (with_handle retired_handle) (λ n. refl) (get_or x.nodes b none)
            ∙ ap current_of (sym (get_or-set_other x.nodes k b (some child) none (free_apart x b up room))))
            ∙ top_kept
            ∙ g.journey;
        cumulatives =
            cumulatives_set (set x.nodes k (some child)) b old cumulatives_grown
            (measure_changed (with_handle retired_handle) (get_or x.nodes b none) (λ n e. g.cumulatives b n e));
      }

pub good_grown : (x : Chain) (b : ℕ) (handle current cumulative : List ℕ) (type locality svn : ℕ) → Measure cumulative → Good x → b < node_count
    → (tree_at x b).used ≡ true → lowest_free node_count (tree_at x) < node_count
    → ((j : ℕ) → j < node_count → (tree_at x j).used ≡ true → same_handle (tree_at x j).handle (handle_row handle) ≡ false)
    → Good (record {
      registers = x.registers;
      nodes = set x.nodes (lowest_free node_count (tree_at x)) (some (new_node b handle 0 current cumulative type locality svn));
    })
unfolding k child
good_grown x b handle current cumulative type locality svn = grown_here x b handle current cumulative type locality svn

pub good_replaced : (x : Chain) (b : ℕ) (handle current cumulative : List ℕ) (type locality svn : ℕ) → Measure cumulative → Good x → b < node_count
    → (tree_at x b).used ≡ true → lowest_free node_count (tree_at x) < node_count → same_handle (handle_row handle) retired_words ≡ false
    → ((j : ℕ) → j < node_count → j ≢ b → (tree_at x j).used ≡ true → same_handle (tree_at x j).handle (handle_row handle) ≡ false)
    → Good (record {
      registers = x.registers;
      nodes =
          set (set x.nodes (lowest_free node_count (tree_at x)) (some (new_node b handle 0 current cumulative type locality svn))) b
          (changed (with_handle retired_handle) (get_or x.nodes b none));
    })
unfolding k child old
good_replaced x b handle current cumulative type locality svn = replaced_here x b handle current cumulative type locality svn

-- ---- a stash: a node below the holder of the default handle, and PCR31

default_row_live : same_handle (handle_row default_handle) retired_words ≡ false
unfolding zeros
default_row_live = ap (λ (w : List ℕ). same_handle w retired_words) default_row ∙ default_live

default_same : same_handle (handle_row default_handle) default_words ≡ true
unfolding zeros
default_same = ap (λ (w : List ℕ). same_handle w default_words) default_row ∙ same_refl default_words

pub good_stash : (x : Chain) (m : Measurement) → Good x → node_with node_count (tree_at x) default_words < node_count → lowest_free node_count (tree_at x) < node_count
    → Good (next_chain x (stash m))
unfolding next_chain
good_stash x m g held room =
    good_replaced (record { registers = extended_at x.registers stash_register m.digest; nodes = x.nodes }) holder _ _ _ _ _ _ (measure_extended _ _)
    (good_register x stash_register _ (measure_extended _ _) (λ (e : ◌≡◌ {A = ℕ} journey_register stash_register). omega arith) g) held
    (has_used default_words (tree_at x holder) (with_there node_count (tree_at x) default_words held)) room default_row_live
    (others_lack node_count (tree_at x) default_words (handle_row default_handle) holder default_same
    (with_else node_count (tree_at x) g.top g.formed default_words default_live))
  where
    holder : ℕ
    holder = node_with node_count (tree_at x) default_words

-- ---- an update boot

-- PCR2 and PCR3 may become any measurements, where the root's current measurement becomes the new PCR3
good_renewed : (x : Chain) (c j : List ℕ) → Measure c → Measure j → Good x
    → Good (record {
      registers = set (set x.registers current_register c) journey_register j;
      nodes = set x.nodes (root_in node_count (tree_at x)) (changed (renewed j) (get_or x.nodes (root_in node_count (tree_at x)) none));
    })
good_renewed x c j mc mj g =
    record {
      shape =
          shape_of _
          (measures_set register_count (set x.registers current_register c) journey_register j mj
          (measures_set register_count x.registers current_register c mc (measures_of x g.shape)))
          (length-set x.nodes r new ∙ g.shape.nodes);
      top = g.top;
      formed = subst (λ (t : Tree). Formed node_count t g.top) (sym (tree_renewed x.nodes r j (omega (arith, root_below x g, g.shape.nodes)))) g.formed;
      journey =
          ap (λ (i : ℕ). current_of (get_or (set x.nodes r new) i none)) (sym (root_is x g))
          ∙ ap current_of (get_or-set_same x.nodes r new none (omega (arith, root_below x g, g.shape.nodes)) ∙ ap (changed (renewed j)) (root_node_law x g).1)
          ∙ sym (get_or-set_same (set x.registers current_register c) journey_register j []
          (rw length-set (omega (arith, g.shape.registers))));
      cumulatives =
          cumulatives_set x.nodes r new g.cumulatives
          (measure_changed (renewed j) (get_or x.nodes r none) (λ n e. measure_extended _ _));
    }
  where
    r : ℕ
    r = root_in node_count (tree_at x)

    new : Option Node
    new = changed (renewed j) (get_or x.nodes r none)

pub good_update : (x : Chain) (b : BootInputs) → Good x → Good (next_chain x (update b))
unfolding next_chain
good_update x b g = good_renewed x _ _ (measure_each _ _ _) (measure_each _ _ _) g

-- ---- its image

module _ (mk at : ℕ) (x : Contents) (g : Good x.chain) where
  pub good_tree : tree_in (image_of mk at x) ≡ tree_at x.chain
  good_tree = tree_read mk at x g.shape

  pub matches_good : root_matches (image_of mk at x) ≡ true
  unfolding root_matches
  matches_good =
      all_below_law (λ i. eqb (word m (root_in node_count (tree_in m)) (current_at + i)) (get_or m (register_at journey_register + i) 0)) register_words
      (λ i l. eq-eqb (word m (root_in node_count (tree_in m)) (current_at + i)) (get_or m (register_at journey_register + i) 0)
      (ap (λ (t : Tree). word m (root_in node_count t) (current_at + i)) good_tree
      ∙ current_at_law m ns (encodes mk at x g.shape) r (omega (arith, root_below x.chain g, g.shape.nodes)) s.0 s.1 i l
      ∙ ap (λ (b : List ℕ). get_or (words48 b) i 0) (sym (ap current_of s.1) ∙ journey_found)
      ∙ ap (λ (ws : List ℕ). get_or ws i 0) (sym (register_words_law mk at x g.shape journey_register (omega arith)))
      ∙ get_d_part register_words m (register_at journey_register) i l))
    where
      m : List ℕ
      m = image_of mk at x

      ns : List (Option Node)
      ns = x.chain.nodes

      r : ℕ
      r = root_in node_count (tree_at x.chain)

      s : (n : Node) × (get_or x.chain.nodes (root_in node_count (tree_at x.chain)) none ≡ some n)
      s = root_node_law x.chain g

      journey_found : current_of (get_or x.chain.nodes (root_in node_count (tree_at x.chain)) none) ≡ get_or x.chain.registers journey_register []
      journey_found = ap (λ (i : ℕ). current_of (get_or x.chain.nodes i none)) (root_is x.chain g) ∙ g.journey

  pub cumulative_read : (i : ℕ) (n : Node) → get_or x.chain.nodes i none ≡ some n → i < node_count → bytes48 (cumulative_in (image_of mk at x) i) ≡ n.cumulative
  cumulative_read i n e l =
      ap bytes48 (cumulative_words (image_of mk at x) x.chain.nodes (encodes mk at x g.shape) i (omega (arith, g.shape.nodes)) n e)
      ∙ bytes_words register_words n.cumulative (g.cumulatives i n e).0 (g.cumulatives i n e).1
