-- The sorts of nodes that are counted and looked for: the root, a free place. Assumes nothing.
use Rattle.std.specs.Prelude.{Bool, not}
use Rattle.tree.specs.Tree.{Place, is_root}
use Rattle.tree.specs.declared.node.Sort.{Sort}
use Rattle.tree.specs.declared.node.Sort.TheVariants.{Root, Free}

abbrev pub is_of : Sort → Place → Bool
is_of Root p = is_root p
is_of Free p = not p.used
