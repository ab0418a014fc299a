-- Word i of the freed nodes laid end to end is word i % 35 of node i / 35, one of the nodes.
use Prim.Native.Nat.{ℕ, ◌+◌, ◌*◌, ◌/◌, ◌%◌, ◌<◌}
use mathlib.Core.Bool.{true}
use mathlib.Core.List.{List}
use mathlib.Core.Path.{◌≡◌}
use native.Mathlib.Omega.{arith}
use lib.Dec.{ltb}
use lib.ListN.{get_or}
use borrow.Author.Rules.{rules}
use borrow.Author.Tests.{ltb-true}
use Rattle.layout.specs.Below.{all_below}
use Rattle.layout.specs.Sizes.{node_count, node_words, node_at}
use Rattle.layout.proofs.Bounded.{all_at}
use Rattle.table.specs.Table.{put}
use Rattle.table.specs.declared.Put.{Put}
use Rattle.table.proofs.row.Row.clear.Goals as goal

-- a node that is freed is one of the nodes
inside : (freed : List ℕ) (count i : ℕ) → all_below count (λ j. ltb (get_or freed j 0) node_count) ≡ true → i < node_words * count
    → get_or freed (i / node_words) 0 < node_count
inside freed count i all h = ltb-true _ node_count (all_at (λ j. ltb (get_or freed j 0) node_count) count (i / node_words) all (omega arith))

abbrev word : List ℕ → ℕ → Put
word freed i = put (node_at (get_or freed (i / node_words) 0) + i % node_words) 0

pub field-requires-clause-within : goal.field-requires-clause-within
field-requires-clause-within c = λ i p h e.
    let same : p ≡ word c.args.freed.now i = search rules in
    rw same (omega (arith, inside c.args.freed.now c.args.count i c.requires.freed_nodes h))

pub returns : goal.returns
returns c = c.field.ensures (word c.args.freed.now) (λ i p h e. search rules)
