-- A granted tree command's work has fine indices, at the nodes that the rules saw. Assumes nothing.
use Prim.Native.Nat.{ℕ, ◌-◌}
use native.Mathlib.Omega.{arith}
use mathlib.Core.Path.{◌≡◌, refl, ap, ◌∙◌}
use mathlib.Core.Bool.{Bool, true, false, cond, ◌&&◌}
use mathlib.Core.List.{List, ◌++◌}
use lib.Dec.{leb, ltb, eqb}
use lib.ListN.{length, get_or, get_or-append}
use lib.Seq.{get_or-set_other}
use borrow.Author.Tests.{lt-ltb, le-leb}
use Rattle.layout.specs.Sizes.{node_count, node_words, locality_at}
use Rattle.layout.specs.Words.{zeros}
use Rattle.layout.specs.Below.{all_below}
use Rattle.layout.proofs.Bounded.{all_below_law}
use Rattle.tree.specs.Tree.{Tree, lowest_free, freed_by}
use Rattle.tree.specs.Nodes.{tree_in}
use Rattle.tree.proofs.Freeing.{in_at, freed_few, freed_below}
use Rattle.table.specs.Table.{index_ok}
use Rattle.table.specs.declared.Kind.TheVariants.{Derive, Replace}
use Rattle.opening.specs.Orders.{NodeCommand, derive, extend, rotate, destroy, malformed, named_in}
use Rattle.opening.specs.Rules.{order_rules}
use Rattle.opening.specs.Works.{with_caller, order_kind, order_values}
use Rattle.opening.proofs.Decided.{NoneApply}
use Rattle.command_laws.proofs.ByOrder.{named_there, derive_room}

pub order_index : (t : Tree) (c : NodeCommand) (fresh : List ℕ) (caller : ℕ)
    → NoneApply (order_rules t (record { command = c; fresh = fresh; caller = caller }))
    → (image : List ℕ) → tree_in image ≡ t → index_ok (order_kind c t) (order_values c fresh caller image).node ≡ true
unfolding index_ok
order_index t (derive h r ty d) fresh caller n image e = go (eqb r 0)
  where
    free : ltb (lowest_free node_count t) node_count ≡ true
    free = lt-ltb (lowest_free node_count t) node_count (derive_room t h r ty d fresh caller n)

    named : ltb (named_in t (derive h r ty d)) node_count ≡ true
    named = lt-ltb (named_in t (derive h r ty d)) node_count (named_there t (record { command = derive h r ty d; fresh = fresh; caller = caller }) n)

    go : (b : Bool)
        → index_ok (cond b (Replace (record { node = lowest_free node_count t; holder = named_in t (derive h r ty d) })) (Derive (lowest_free node_count t)))
        (order_values (derive h r ty d) fresh caller image).node
        ≡ true
    go true = rw (free, named)
    go false = free
order_index t (extend h d) fresh caller n image e =
    lt-ltb (named_in t (extend h d)) node_count (named_there t (record { command = extend h d; fresh = fresh; caller = caller }) n)
order_index t (rotate h) fresh caller n image e =
    lt-ltb (named_in t (rotate h)) node_count (named_there t (record { command = rotate h; fresh = fresh; caller = caller }) n)
order_index t (destroy h) fresh caller n image e =
    let i = named_in t (destroy h) in
    let l = named_there t (record { command = destroy h; fresh = fresh; caller = caller }) n in
    let few = freed_few node_count t i l in
    let ks : Tree → List ℕ = λ u. freed_by node_count u (named_in u (destroy h)) in
    let words : Tree → List ℕ = λ u. with_caller (ks u ++ zeros (node_words - length (ks u))) caller in
    ap (λ (u : Tree). leb (length (ks t)) node_count && all_below (length (ks t)) (λ j. ltb (get_or (words u) j 0) node_count)) e
    ∙ rw (
      le-leb (length (ks t)) node_count (omega (arith, few)),
      all_below_law (λ j. ltb (get_or (words t) j 0) node_count) (length (ks t))
          (λ j k. ap (λ (x : ℕ). ltb x node_count)
          (get_or-set_other (ks t ++ zeros (node_words - length (ks t))) locality_at j caller 0 (λ (q : j ≡ locality_at). omega (arith, few))
          ∙ get_or-append (ks t) (zeros (node_words - length (ks t))) 0 j k)
          ∙ lt-ltb (get_or (ks t) j 0) node_count (freed_below node_count t i (get_or (ks t) j 0) l (in_at (ks t) j k))),
    )
order_index t malformed fresh caller n image e = refl
