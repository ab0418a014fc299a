-- A loop that passes while the words are v: `all_more` is a word more, `all_fails` the word that is not.
use Prim.Native.Nat.{◌+◌, ◌-◌, ◌≤◌}
use mathlib.Core.Path.{◌≡◌}
use mathlib.Core.Bool.{true}
use lib.Dec.{eqb}
use Rattle.layout.specs.Below.{all_below}
use Rattle.tree.specs.Nodes.{word}
use Rattle.tree.proofs.node.Node.all_are.Given as goal

abbrev pub invariant-loop-j : goal.invariant-loop-j
invariant-loop-j l = (l.j ≤ l.n) × (all_below l.j (λ k. eqb (word l.self.image.now l.self.index (l.from + k)) l.v) ≡ true)

abbrev pub decreases-loop-j : goal.decreases-loop-j
decreases-loop-j l = l.n - l.j
