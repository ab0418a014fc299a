-- A search: `first_on` passes a node that is not of the sort, `first_here` ends at one that is, `first_none` past the last.
use native.Mathlib.Omega.{arith}
use mathlib.Core.Path.{◌≡◌, sym, ◌∙◌}
use Rattle.layout.specs.Sizes.{node_count}
use Rattle.layout.proofs.Cases.{told}
use Rattle.layout.proofs.Bounded.{first_on, first_here, first_none}
use Rattle.tree.proofs.index.lowest.Goals as goal

pub returns-then-is_of : goal.returns-then-is_of
returns-then-is_of c = record {
  value = sym (c.loop-i.invariant.1
      ∙ first_here _ node_count c.loop-i.i (omega arith) (told c.is_of.ensures c.if-is_of.true));
  upper_bound = omega arith;
}

pub loop-i-preserved : goal.loop-i-preserved
loop-i-preserved c = (
  omega arith,
  c.loop-i.invariant.1
      ∙ first_on _ node_count c.loop-i.i (omega arith) (told c.is_of.ensures c.if-is_of.false),
)

pub returns : goal.returns
returns c =
    let e : c.loop-i.i ≡ node_count = omega arith in
    record { value = sym (c.loop-i.invariant.1 ∙ first_none _ node_count c.loop-i.i (omega arith) ∙ e); upper_bound = omega arith }
