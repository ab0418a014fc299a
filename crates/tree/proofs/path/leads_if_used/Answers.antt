-- A free node needs no way, and what is known stays known.
use mathlib.Core.Path.{sym}
use Rattle.layout.proofs.Cases.{cases, told}
use Rattle.tree.specs.Tree.{leads_if_used}
use Rattle.tree.proofs.path.leads_if_used.Goals as goal

pub returns-then-not-is_used : goal.returns-then-not-is_used
unfolding leads_if_used
returns-then-not-is_used c = record { value = search (cases, told c.is_used.ensures c.if-not-is_used.true); known_2 = c.requires }

pub returns-then-not-leads_to_root : goal.returns-then-not-leads_to_root
unfolding leads_if_used
returns-then-not-leads_to_root c =
    let u = told c.is_used.ensures c.if-not-is_used.false in
    record { value = sym (rw u (told c.leads_to_root.ensures c.if-not-leads_to_root.true)); known_2 = c.requires }

pub mark_way-requires : goal.mark_way-requires
mark_way-requires c = record { known = c.requires; node_value = told c.leads_to_root.ensures c.if-not-leads_to_root.false }

pub returns : goal.returns
unfolding leads_if_used
returns c =
    let u = told c.is_used.ensures c.if-not-is_used.false in
    record { value = sym (rw u (told c.leads_to_root.ensures c.if-not-leads_to_root.false)); known_2 = c.mark_way.ensures }
