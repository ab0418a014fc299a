-- `nodes_first` meets its contract: every index so far is a node's. Assumes nothing.
use native.Mathlib.Omega.{arith}
use Prim.Native.Nat.{ℕ}
use mathlib.Core.Path.{◌≡◌, sym}
use mathlib.Core.Bool.{Bool}
use mathlib.Core.List.{List}
use lib.Dec.{ltb}
use lib.ListN.{get_or}
use borrow.Author.Rules.{rules}
use borrow.Author.Tests.{lt-ltb, le-ltb}
use Rattle.layout.specs.Sizes.{node_count}
use Rattle.layout.proofs.Bounded.{all_none, all_more, all_fails}
use Rattle.table.proofs.nodes_first.Goals as goal

abbrev isNode : List ℕ → ℕ → Bool
isNode words i = ltb (get_or words i 0) node_count

pub loop-j-init : goal.loop-j-init
loop-j-init c = (search rules, all_none _)

pub returns-then-word-ge-NODES : goal.returns-then-word-ge-NODES
returns-then-word-ge-NODES c =
    let a = c.args in
    let j = c.loop-j.j in
    sym (all_fails (isNode a.words.now) j a.count (le-ltb (get_or a.words.now j 0) node_count (omega (arith, c.word.ensures))) (omega arith))

pub loop-j-preserved : goal.loop-j-preserved
loop-j-preserved c =
    let words = c.args.words.now in
    let j = c.loop-j.j in
    (omega arith, all_more (isNode words) j c.loop-j.invariant.1 (lt-ltb (get_or words j 0) node_count (omega (arith, c.word.ensures))))

pub returns : goal.returns
returns c = let e : c.loop-j.j ≡ c.args.count = omega arith in sym (rw e at c.loop-j.invariant.1)
