-- Each exit is one line of the stash's rules: off, not well formed, no holder, no free node, none.
use mathlib.Core.Path.{ap}
use Rattle.std.specs.Prelude.{Ok}
use native.Mathlib.Omega.{arith}
use lib.ListN.{get_or}
use borrow.Author.Tests.{eq-eqb, ne_eqb, le-leb, lt-leb}
use Rattle.layout.specs.Sizes.{node_count, attestation_at}
use Rattle.layout.proofs.Cases.{told}
use Rattle.tree.specs.Tree.{default_words, node_with, lowest_free}
use Rattle.tree.specs.Nodes.{tree_in}
use Rattle.opening.specs.Works.{work_at}
use Rattle.opening.specs.Openings.{view_in}
use Rattle.request.specs.Screen.{screened_opened}
use Rattle.request.proofs.stash.serve_stash.Goals as goal

pub returns-then-image-ne1 : goal.returns-then-image-ne1
unfolding screened_opened view_in work_at
returns-then-image-ne1 c = rw (ne_eqb (get_or c.args.image.now attestation_at 0) 1 c.if-image-ne1.true) (ap Ok c.declined.ensures)

pub returns-then-not-well_formed : goal.returns-then-not-well_formed
unfolding screened_opened view_in work_at
returns-then-not-well_formed c =
    rw (
      eq-eqb (get_or c.args.image.now attestation_at 0) 1 c.if-image-ne1.false,
      told c.well_formed-2.ensures c.if-not-well_formed.true,
    )

-- on, and well formed
pub returns-then-holder-ge-NODES : goal.returns-then-holder-ge-NODES
unfolding screened_opened view_in work_at
returns-then-holder-ge-NODES c =
    let a = c.args in
    rw (
      eq-eqb (get_or a.image.now attestation_at 0) 1 c.if-image-ne1.false,
      told c.well_formed-2.ensures c.if-not-well_formed.false,
      le-leb node_count (node_with node_count (tree_in a.image.now) default_words) (omega (arith, c.holder_index-holder.ensures.value)),
    ) (ap Ok c.declined-then-holder-ge-NODES.ensures)

pub returns-then-node-ge-NODES : goal.returns-then-node-ge-NODES
unfolding screened_opened view_in work_at
returns-then-node-ge-NODES c =
    let a = c.args in
    rw (
      eq-eqb (get_or a.image.now attestation_at 0) 1 c.if-image-ne1.false,
      told c.well_formed-2.ensures c.if-not-well_formed.false,
      lt-leb node_count (node_with node_count (tree_in a.image.now) default_words) (omega (arith, c.holder_index-holder.ensures.value)),
      le-leb node_count (lowest_free node_count (tree_in a.image.now)) (omega (arith, c.free_index-node.ensures.value)),
    ) (ap Ok c.declined-then-node-ge-NODES.ensures)

pub returns : goal.returns
unfolding screened_opened view_in
returns c =
    let a = c.args in
    rw (
      eq-eqb (get_or a.image.now attestation_at 0) 1 c.if-image-ne1.false,
      told c.well_formed-2.ensures c.if-not-well_formed.false,
      lt-leb node_count (node_with node_count (tree_in a.image.now) default_words) (omega (arith, c.holder_index-holder.ensures.value)),
      lt-leb node_count (lowest_free node_count (tree_in a.image.now)) (omega (arith, c.free_index-node.ensures.value)),
    ) (ap Ok c.accepted.ensures)
