-- What a destroy frees (document 02, §5). The ledger frees node by node in its own list, each time looking at the list as it then stands; the work clears
-- the nodes that were listed at its opening. Both come to the same nodes, in the same number. Assumes nothing.
use mathlib.Core.Path.{◌≡◌, refl, sym, ap, ◌∙◌, subst, fun_ext}
use mathlib.Core.Logic.{◌≢◌, inl, inr}
use Prim.Native.Nat.{ℕ, zero, suc, ◌+◌, ◌-◌, ◌<◌}
use native.Mathlib.Nat.{zero-add, not-suc-le-zero}
use native.Mathlib.Omega.{arith}
use native.Mathlib.Decide.{ℕ_discrete, dec_lt}
use mathlib.Core.Bool.{Bool, true, false, cond, true≢false}
use mathlib.Core.List.{List, [], ◌∷◌, ◌++◌}
use mathlib.Core.Option.{Option, none}
use lib.ListN.{length, get_or, set, length-set, get_or-append, get_or-eq_default}
use lib.Seq.{get_or-set_same, get_or-set_other}
use borrow.Author.Tests.{le-leb}
use Rattle.layout.specs.Sizes.{node_count, node_words, locality_at, mark_at}
use Rattle.layout.specs.Words.{zeros}
use Rattle.layout.specs.Below.{count_below}
use Rattle.tree.specs.Tree.{Place, free_place, Tree, is_root, childless, goes_too, freed_within, freed_by}
use Rattle.tree.specs.Statements.{In}
use Rattle.tree.proofs.Rooted.{placed, placed_same, placed_other}
use Rattle.tree.proofs.WellFormed.{Formed}
use Rattle.tree.proofs.Freeing.{Once, cleared, freed_is, freed_few, freed_below, freed_each, freed_once, freed_bound, formed_freed, goes_root, Needs, least, needs_none, needs_up}
use Rattle.tree.proofs.StepByStep.{left_in, Thinned, at_parent, left_goes, thinned_more}
use Rattle.nodes.specs.Record.{Node, place_of, tree_of}
use Rattle.table.specs.Table.{one, clear, destroy_runs}
use Rattle.table.specs.declared.Kind.TheVariants.{Destroy}
use Rattle.table.specs.declared.Put.{Put}
use Rattle.work.specs.Entries.{runs_of}
use Rattle.making.specs.Made.{work_with}
use Rattle.work.proofs.Plans.{apply, stores_in, plan}
use Rattle.opening.specs.Orders.{destroy, named_in}
use Rattle.opening.specs.Tasks.{Order, invoke}
use Rattle.opening.specs.Rules.{order_rules}
use Rattle.opening.specs.Works.{with_caller, facts_of, work_at}
use Rattle.opening.proofs.Decided.{NoneApply, negated}
use Rattle.command_laws.proofs.ByOrder.{named_there}
use Rattle.history.specs.Ledger.{Chain, Contents, tree_at, left_behind, freed_from, next_nodes, next_chain, next, used_in, kind_at, image_of}
use Rattle.history.proofs.Good.{Cumulatives, cumulatives_set, Good, good_nodes, good_tree}
use Rattle.history.proofs.Runs.{plan_at, counted, mark_run}
use Rattle.history.proofs.Clears.{freed_all, with_nodes, Below, run_clear}
use Rattle.history.proofs.Orders.{named_used, beside}

-- ---- the tree of freed nodes

-- a freed place reads as a free one, past the end too
pub tree_none : (ns : List (Option Node)) (k : ℕ) → tree_of (set ns k none) ≡ placed k free_place (tree_of ns)
tree_none ns k = fun_ext (λ i. elim (ℕ_discrete i k) [
  | yes e ↦ ap place_of (ap (λ (j : ℕ). get_or (set ns k none) j none) e ∙ gone) ∙ sym (ap (placed k free_place (tree_of ns)) e ∙ placed_same k free_place (tree_of ns))
  | no z ↦ ap place_of (get_or-set_other ns k i none none z) ∙ sym (placed_other k free_place (tree_of ns) i z)
])
  where
    gone : ◌≡◌ {A = Option Node} (get_or (set ns k none) k none) none
    gone = elim (dec_lt k (length ns)) [
      | yes l ↦ get_or-set_same ns k none none l
      | no g ↦ get_or-eq_default (set ns k none) none {n = k} (rw length-set (omega arith))
    ]

-- ---- node by node, and as listed

-- the ledger's test is the tree's
left_behind_law : (ns : List (Option Node)) (p : ℕ) → left_behind ns p ≡ left_in node_count (tree_of ns) p
unfolding left_behind
left_behind_law ns p = refl

module _ (t : Tree) where
  left_same : (ns : List (Option Node)) (i r : ℕ) → Needs node_count t i r → Thinned node_count t (tree_of ns) r
      → left_behind (set ns i none) (t i).parent ≡ goes_too node_count t i (t i).parent
  left_same ns i r a h =
      left_behind_law (set ns i none) (t i).parent
      ∙ ap (λ (v : Tree). left_in node_count v (t i).parent) (tree_none ns i)
      ∙ left_goes node_count t (tree_of ns) i r a h

  within_list : (s : ℕ) (ns : List (Option Node)) (i r : ℕ) → tree_of ns i ≡ t i → Needs node_count t i r → Thinned node_count t (tree_of ns) r
      → freed_from s ns i ≡ freed_all (freed_within node_count t s i) ns
  unfolding freed_from freed_within
  within_list zero ns i r e a h = refl
  within_list (suc s) ns i r e a h =
      ap (λ (q : Place). cond (left_behind (set ns i none) q.parent) (freed_from s (set ns i none) q.parent) (set ns i none)) e
      ∙ ap (λ (b : Bool). cond b (freed_from s (set ns i none) (t i).parent) (set ns i none)) (left_same ns i r a h)
      ∙ go (goes_too node_count t i (t i).parent) refl r a h (within_list s (set ns i none) (t i).parent)
    where
      go : (b : Bool) → goes_too node_count t i (t i).parent ≡ b → (r : ℕ) → Needs node_count t i r → Thinned node_count t (tree_of ns) r
          → ((q : ℕ) → tree_of (set ns i none) (t i).parent ≡ t (t i).parent → Needs node_count t (t i).parent q → Thinned node_count t (tree_of (set ns i none)) q
          → freed_from s (set ns i none) (t i).parent ≡ freed_all (freed_within node_count t s (t i).parent) (set ns i none))
          → cond b (freed_from s (set ns i none) (t i).parent) (set ns i none)
          ≡ freed_all (cond b (freed_within node_count t s (t i).parent) []) (set ns i none)
      go false g r a h on = refl
      go true g zero a h on = absurd (true≢false (sym (needs_none node_count t i a) ∙ goes_root node_count t i (t i).parent g))
      go true g (suc r) a h on =
          let b = needs_up node_count t i r (goes_root node_count t i (t i).parent g) a in
          on r (ap (λ (v : Tree). v (t i).parent) (tree_none ns i) ∙ at_parent node_count t (tree_of ns) i (suc r) a h) b
          (subst (λ (v : Tree). Thinned node_count t v r) (sym (tree_none ns i)) (thinned_more node_count t (tree_of ns) i (suc r) a h r (omega arith) b))

-- ---- what is freed, in the ledger's list

tree_freed : (ks : List ℕ) (ns : List (Option Node)) → tree_of (freed_all ks ns) ≡ cleared ks (tree_of ns)
tree_freed [] ns = refl
tree_freed (k ∷ ks) ns = tree_freed ks (set ns k none) ∙ ap (cleared ks) (tree_none ns k)

length_freed : (ks : List ℕ) (ns : List (Option Node)) → length (freed_all ks ns) ≡ length ns
length_freed [] ns = refl
length_freed (k ∷ ks) ns = length_freed ks (set ns k none) ∙ length-set ns k none

cumulatives_freed : (ks : List ℕ) (ns : List (Option Node)) → Cumulatives ns → Cumulatives (freed_all ks ns)
cumulatives_freed [] ns c = c
cumulatives_freed (k ∷ ks) ns c = cumulatives_freed ks (set ns k none) (cumulatives_set ns k none c tt)

freed_other : (ks : List ℕ) (ns : List (Option Node)) (j : ℕ) → (In j ks → ⊥) → get_or (freed_all ks ns) j none ≡ get_or ns j none
freed_other [] ns j h = refl
freed_other (k ∷ ks) ns j h = freed_other ks (set ns k none) j (λ w. h (inr w)) ∙ get_or-set_other ns k j none none (λ e. h (inl e))

-- ---- how many are used no more

-- one number fewer
count_one : (p q : ℕ → Bool) (n k : ℕ) → k < n → p k ≡ true → q k ≡ false → ((i : ℕ) → i ≢ k → q i ≡ p i) → count_below n p ≡ suc (count_below n q)
unfolding count_below
count_one p q zero k l a b h = absurd (not-suc-le-zero l)
count_one p q (suc n) k l a b h = elim (ℕ_discrete k n) [
  | yes z ↦
      (let same : count_below n p ≡ count_below n q = rest n (λ i w. sym (h i (λ (e : i ≡ k). omega arith))) in
      let x : p n ≡ true = ap p (sym z) ∙ a in
      let y : q n ≡ false = ap q (sym z) ∙ b in
      rw (x, y) (omega (arith, same)))
  | no z ↦
      (let more = count_one p q n k (omega arith) a b h in
      let same : q n ≡ p n = h n (λ (e : n ≡ k). z (sym e)) in
      rw same (omega (arith, more)))
]
  where
    rest : (m : ℕ) → ((i : ℕ) → i < m → p i ≡ q i) → count_below m p ≡ count_below m q
    rest zero w = refl
    rest (suc m) w = rw (w m (omega arith)) (ap (λ (c : ℕ). c + cond (q m) 1 0) (rest m (λ i l. w i (omega arith))))

used_fewer : (ks : List ℕ) (ns : List (Option Node)) → Once ks → ((j : ℕ) → In j ks → (j < node_count) × ((tree_of ns j).used ≡ true))
    → used_in ns ≡ length ks + used_in (freed_all ks ns)
used_fewer [] ns o h = sym (zero-add (used_in ns))
used_fewer (k ∷ ks) ns o h =
    let here : used_in ns ≡ suc (used_in (set ns k none)) =
    count_one (λ i. (tree_of ns i).used) (λ i. (tree_of (set ns k none) i).used) node_count k (h k (inl refl)).0 (h k (inl refl)).1
    (ap (λ (v : Tree). (v k).used) (tree_none ns k) ∙ ap (λ (p : Place). p.used) (placed_same k free_place (tree_of ns)))
    (λ i z. ap (λ (v : Tree). (v i).used) (tree_none ns k) ∙ ap (λ (p : Place). p.used) (placed_other k free_place (tree_of ns) i z)) in
    let more = used_fewer ks (set ns k none) o.1
    (λ j w. (
      (h j (inr w)).0,
      ap (λ (v : Tree). (v j).used) (tree_none ns k)
          ∙ ap (λ (p : Place). p.used) (placed_other k free_place (tree_of ns) j (λ e. o.0 (subst (λ (m : ℕ). In m ks) e w)))
          ∙ (h j (inr w)).1,
    )) in
    omega (arith, here, more)

-- ---- a destroy

below_all : (n : ℕ) (ks : List ℕ) → ((j : ℕ) → In j ks → j < n) → Below n ks
below_all n [] h = tt
below_all n (k ∷ ks) h = (h k (inl refl), below_all n ks (λ j w. h j (inr w)))

module _ (x : Chain) (g : Good x) (h fresh : List ℕ) (caller : ℕ)
    (n : NoneApply (order_rules (tree_at x) (record { command = destroy h; fresh = fresh; caller = caller }))) where
  abbrev destroying : Order
  destroying = record { command = destroy h; fresh = fresh; caller = caller }

  abbrev i : ℕ
  i = named_in (tree_at x) (destroy h)

  abbrev pub listed : List ℕ
  listed = freed_by node_count (tree_at x) i

  there : i < node_count
  there = named_there (tree_at x) destroying n

  used : (tree_at x i).used ≡ true
  used = named_used (tree_at x) destroying n

  not_root : is_root (tree_at x i) ≡ false
  not_root = n.1.1.1.1.1.0

  alone : childless node_count (tree_at x) i ≡ true
  alone = negated (childless node_count (tree_at x) i) n.1.1.1.1.1.1.0

  each : (j : ℕ) → In j listed → (is_root (tree_at x j) ≡ false) × ((tree_at x j).used ≡ true)
  each j w = freed_each node_count (tree_at x) (node_count - 1) i j not_root used (subst (In j) (freed_is node_count (tree_at x) i there) w)

  pub all_below_law : (j : ℕ) → In j listed → j < node_count
  all_below_law j w = freed_below node_count (tree_at x) i j there w

  pub few : length listed < node_count
  few = freed_few node_count (tree_at x) i there

  -- the ledger's freeing is the list's
  pub nodes_freed : next_nodes x.nodes (destroy h) fresh caller ≡ freed_all listed x.nodes
  unfolding next_nodes
  nodes_freed =
      let a = least node_count (tree_at x) (node_count - 1) i not_root (g.formed.rooted.way i there used) in
      within_list (tree_at x) node_count x.nodes i a.steps refl a.needs (record { near = λ j w. refl; each = λ j. inl refl })
      ∙ ap (λ (ks : List ℕ). freed_all ks x.nodes)
      (freed_bound node_count (tree_at x) g.top g.formed.rooted i there used not_root node_count (omega arith))

  pub good_destroy : Good (next_chain x (invoke destroying))
  unfolding next_chain
  good_destroy =
      subst (λ (ns : List (Option Node)). Good (record { registers = x.registers; nodes = ns })) (sym nodes_freed)
      (good_nodes x g (freed_all listed x.nodes) (length_freed listed x.nodes ∙ g.shape.nodes)
      (subst (λ (v : Tree). Formed node_count v g.top) (sym (tree_freed listed x.nodes))
      (formed_freed node_count (tree_at x) g.top g.formed i there used not_root alone))
      (freed_other listed x.nodes g.top (λ w. true≢false (sym g.formed.rooted.root ∙ (each g.top w).0)))
      (cumulatives_freed listed x.nodes g.cumulatives))

  -- and so is its number
  pub kind_destroy : kind_at x (invoke destroying) ≡ (facts_of (invoke destroying)).kind (tree_at x)
  unfolding kind_at next_chain
  kind_destroy =
      let fewer = used_fewer listed x.nodes (freed_once node_count (tree_at x) g.top g.formed.rooted i there used not_root)
      (λ j w. (all_below_law j w, (each j w).1)) in
      let same : used_in (next_nodes x.nodes (destroy h) fresh caller) ≡ used_in (freed_all listed x.nodes) = ap used_in nodes_freed in
      let count : used_in x.nodes - used_in (next_nodes x.nodes (destroy h) fresh caller) ≡ length listed = omega (arith, fewer, same) in
      ap Destroy count

module _ (att : ℕ) (x : Contents) (g : Good x.chain) (h fresh : List ℕ) (caller : ℕ)
    (n : NoneApply (order_rules (tree_at x.chain) (record { command = destroy h; fresh = fresh; caller = caller }))) where
  ks : List ℕ
  ks = listed x.chain g h fresh caller n

  words : List ℕ
  words = with_caller (ks ++ zeros (node_words - length ks)) caller

  destroy_plan : plan_at (image_of 1 att x) (invoke (record { command = destroy h; fresh = fresh; caller = caller }))
      ≡ stores_in (one mark_at 0 ∷ clear (length ks) words ∷ one mark_at 1 ∷ [])
  unfolding plan_at plan runs_of work_at work_with ks words
  destroy_plan =
      (let u = good_tree 1 att x g in
      λ j.
      let l = freed_by node_count (u j) (named_in (u j) (destroy h)) in
      stores_in (destroy_runs (length l) (with_caller (l ++ zeros (node_words - length l)) caller)))
      ∙ ap (λ (b : Bool). stores_in (cond b (one mark_at 0 ∷ clear (length ks) words ∷ one mark_at 1 ∷ []) []))
      (le-leb (length ks) node_count (omega (arith, few x.chain g h fresh caller n)))

  pub run_destroy : apply (plan_at (image_of 1 att x) (invoke (record { command = destroy h; fresh = fresh; caller = caller }))) (image_of 1 att x)
      ≡ image_of 1 att (next x (invoke (record { command = destroy h; fresh = fresh; caller = caller })))
  unfolding next_chain ks words
  run_destroy =
      ap (λ (p : List Put). apply p (image_of 1 att x)) destroy_plan
      ∙ mark_run 1 att x (clear (length ks) words ∷ one mark_at 1 ∷ []) 0
      ∙ run_clear 0 att (one mark_at 1 ∷ []) words ks x (counted x.chain g) (below_all node_count ks (all_below_law x.chain g h fresh caller n))
      (λ j l. beside (ks ++ zeros (node_words - length ks)) caller j (λ (z : j ≡ locality_at). omega (arith, few x.chain g h fresh caller n))
      ∙ get_or-append ks (zeros (node_words - length ks)) 0 j l)
      ∙ mark_run 0 att (with_nodes x (freed_all ks x.chain.nodes)) [] 1
      ∙ ap (λ (ns : List (Option Node)). image_of 1 att (with_nodes x ns)) (sym (nodes_freed x.chain g h fresh caller n))
