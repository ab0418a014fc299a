-- Past the image's end zero; elsewhere the place of a word, the node's part of it first.
use mathlib.Core.Path.{ap, ◌∙◌}
use Prim.Native.Nat.{ℕ, ◌+◌}
use native.Mathlib.Omega.{arith}
use lib.ListN.{get_or}
use Rattle.layout.specs.Sizes.{node_at}
use Rattle.layout.proofs.Tab.{get_d_past}
use Rattle.tree.specs.Nodes.{word}
use Rattle.tree.proofs.node.word_at.Goals as goal

pub returns-then-image-i : goal.returns-then-image-i
unfolding word
returns-then-image-i c =
    let a = c.args in
    get_d_past a.image.now (node_at a.i + a.j) (omega arith)

pub returns : goal.returns
unfolding word
returns c = c.word_after.ensures ∙ ap (λ (k : ℕ). get_or c.args.image.now k 0) (omega arith)
