-- The invariant: what is found so far, then what is freed from this node upwards.
use native.Mathlib.Omega.{arith}
use mathlib.Core.Path.{◌≡◌, sym, ap, ◌∙◌}
use mathlib.Core.Bool.{true, false}
use Rattle.layout.specs.Sizes.{node_count, node_words}
use Rattle.layout.proofs.Cases.{told}
use Rattle.tree.specs.Tree.{goes_too, freed_by}
use Rattle.tree.specs.Nodes.{tree_in}
use Rattle.tree.proofs.Growing.{room, partly_none, partly_more, carried, grow_stop, grow_on, grow_full, freed_start, freed_none}
use Rattle.tree.proofs.Freeing.{goes_below}
use Rattle.tree.proofs.freed.freed_by.Goals as goal

pub returns-then-i-ge-NODES : goal.returns-then-i-ge-NODES
returns-then-i-ge-NODES c =
    let a = c.args in
    let t = tree_in a.image.now in
    let r = carried node_words _ 0 (freed_by node_count t a.i) (omega arith) (partly_none node_words) (freed_none node_count t a.i c.if-i-ge-NODES.true) in
    record { count_value = r.0; nodes_value = r.1 }

pub loop-init : goal.loop-init
loop-init c =
    let a = c.args in
    (omega arith, omega arith, partly_none node_words, freed_start node_count (tree_in a.image.now) a.i (omega arith))

pub returns-then-not-goes_too : goal.returns-then-not-goes_too
returns-then-not-goes_too c =
    let l = c.loop in
    let a = c.args in
    let t = tree_in a.image.now in
    let g : goes_too node_count t l.at (t l.at).parent ≡ false =
    ap (goes_too node_count t l.at) (sym c.parent-p.ensures) ∙ told c.goes_too.ensures c.if-not-goes_too.true in
    let r =
    carried node_words _ _ (freed_by node_count t a.i) (omega (arith, room)) (partly_more node_words l.nodes l.count l.at (omega (arith, room)) l.invariant.2)
    (grow_stop node_count t _ l.nodes l.count l.at (omega (arith, l.invariant.2.long)) (omega arith) l.invariant.3 g) in
    record { count_value = r.0; nodes_value = r.1 }

pub loop-preserved : goal.loop-preserved
loop-preserved c =
    let l = c.loop in
    let t = tree_in c.args.image.now in
    let p = c.parent-p.result in
    let e : goes_too node_count t l.at p ≡ true = told c.goes_too.ensures c.if-not-goes_too.false in
    let g : goes_too node_count t l.at (t l.at).parent ≡ true = ap (goes_too node_count t l.at) (sym c.parent-p.ensures) ∙ e in (
      omega arith,
      goes_below node_count t l.at p e,
      partly_more node_words l.nodes l.count l.at (omega (arith, room)) l.invariant.2,
      rw c.parent-p.ensures
          (grow_on node_count t _ l.nodes l.count l.at (omega (arith, l.invariant.2.long)) (omega arith) l.invariant.3 g),
    )

pub returns : goal.returns
returns c =
    let l = c.loop in
    let a = c.args in
    let t = tree_in a.image.now in
    let r = carried node_words l.nodes l.count (freed_by node_count t a.i) (omega (arith, room)) l.invariant.2 (grow_full node_count t _ _ l.count l.at (omega arith) l.invariant.3) in
    record { count_value = r.0; nodes_value = r.1 }
