-- A free or a retired node shares no live handle; any other is searched for among the nodes before it.
use mathlib.Core.Path.{sym, ap, ◌∙◌}
use mathlib.Core.List.{List}
use Prim.Native.Nat.{ℕ}
use lib.Dec.{eqb}
use Rattle.layout.specs.Below.{first_below}
use Rattle.layout.proofs.Cases.{told}
use Rattle.tree.specs.Tree.{has_handle}
use Rattle.tree.specs.Nodes.{tree_in}
use Rattle.tree.proofs.Apart.{apart_free, apart_retired, apart_search}
use Rattle.tree.proofs.formed.apart_below.Goals as goal

pub returns-then-not-is_used : goal.returns-then-not-is_used
returns-then-not-is_used c =
    let a = c.args in
    sym (apart_free (tree_in a.node.now.image.now) a.node.now.index (told c.is_used.ensures c.if-not-is_used.true))

pub returns-then-is_retired : goal.returns-then-is_retired
returns-then-is_retired c =
    let a = c.args in
    sym (apart_retired (tree_in a.node.now.image.now) a.node.now.index (told c.is_retired.ensures c.if-is_retired.true))

pub returns : goal.returns
returns c =
    let a = c.args in
    let t = tree_in a.node.now.image.now in
    ap (λ (r : ℕ). eqb r a.node.now.index)
    (c.lowest_with.ensures.value ∙ ap (λ (h : List ℕ). first_below a.node.now.index (λ j. has_handle h (t j))) c.handle.ensures)
    ∙ apart_search t a.node.now.index (told c.is_used.ensures c.if-not-is_used.false)
    (told c.is_retired.ensures c.if-is_retired.false)
