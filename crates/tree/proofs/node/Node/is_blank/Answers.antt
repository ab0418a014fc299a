-- Every word, from word 0 on.
use mathlib.Core.Path.{◌∙◌}
use native.Mathlib.Nat.{zero-add}
use Rattle.layout.specs.Sizes.{node_words}
use Rattle.layout.proofs.Bounded.{all_same}
use Rattle.tree.specs.Nodes.{all_zero, tree_in}
use Rattle.tree.proofs.node.Node.is_blank.Goals as goal

pub returns : goal.returns
unfolding all_zero tree_in
returns c = c.all_are.ensures ∙ all_same _ _ node_words (λ j l. rw zero-add)
