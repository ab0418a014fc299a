-- `row_of` meets its contract: a kind's row is the one that its arm calls, and what the row requires is `within` of ByKind. Assumes nothing.
use native.Mathlib.Omega.{arith}
use Rattle.table.proofs.ByKind.{within}
use Rattle.table.proofs.row_of.Goals as goal

pub stash_row-requires : goal.stash_row-requires
stash_row-requires c =
    let w = rw c.in-Stash.is at (within c.args.kind c.args.words.now.node.now c.requires) in
    record { node_lt_node_count = w.0; holder_lt_node_count = w.1 }

pub update_row-requires : goal.update_row-requires
update_row-requires c =
    let w = rw c.in-Update.is at (within c.args.kind c.args.words.now.node.now c.requires) in
    record { root_lt_node_count = w }

pub extension_row-requires : goal.extension_row-requires
extension_row-requires c =
    let w = rw c.in-Extension.is at (within c.args.kind c.args.words.now.node.now c.requires) in
    record { at_le_extend_last = w }

pub part_row-requires : goal.part_row-requires
part_row-requires c =
    let w = rw c.in-Derive.is at (within c.args.kind c.args.words.now.node.now c.requires) in
    record { i_lt_node_count = w; words_bound = omega arith }

pub replace_row-requires : goal.replace_row-requires
replace_row-requires c =
    let w = rw c.in-Replace.is at (within c.args.kind c.args.words.now.node.now c.requires) in
    record { node_lt_node_count = w.0; holder_lt_node_count = w.1 }

pub part_row-requires-in-Extend : goal.part_row-requires-in-Extend
part_row-requires-in-Extend c =
    let w = rw c.in-Extend.is at (within c.args.kind c.args.words.now.node.now c.requires) in
    record { i_lt_node_count = w; words_bound = omega arith }

pub part_row-requires-in-Rotate : goal.part_row-requires-in-Rotate
part_row-requires-in-Rotate c =
    let w = rw c.in-Rotate.is at (within c.args.kind c.args.words.now.node.now c.requires) in
    record { i_lt_node_count = w; words_bound = omega arith }

pub destroy_row-requires : goal.destroy_row-requires
destroy_row-requires c =
    let w = rw c.in-Destroy.is at (within c.args.kind c.args.words.now.node.now c.requires) in
    record { count_le_node_count = w.0; node_count_value = w.1 }
