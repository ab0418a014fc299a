-- No node below the number of nodes is the one left out.
use mathlib.Core.Path.{◌∙◌}
use Rattle.layout.specs.Sizes.{node_count}
use Rattle.tree.specs.Nodes.{tree_in}
use Rattle.tree.proofs.Growing.{childless_past}
use Rattle.tree.proofs.freed.childless.Goals as goal

pub returns : goal.returns
returns c =
    let a = c.args in
    c.childless_but.ensures ∙ childless_past node_count (tree_in a.image.now) a.i
