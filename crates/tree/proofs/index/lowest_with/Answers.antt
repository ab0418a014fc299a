-- A search as `lowest` is, of the nodes with the handle.
use native.Mathlib.Omega.{arith}
use borrow.Author.Rules.{rules}
use native.Mathlib.Nat.{sub-zero}
use Prim.Native.Nat.{ℕ}
use mathlib.Core.Path.{◌≡◌, sym, ap, ◌∙◌}
use Rattle.layout.specs.Below.{first_from}
use Rattle.layout.proofs.Cases.{told}
use Rattle.layout.proofs.Bounded.{first_on, first_here, first_none}
use Rattle.tree.specs.Tree.{has_handle}
use Rattle.tree.specs.Nodes.{tree_in}
use Rattle.tree.proofs.index.lowest_with.Goals as goal

pub loop-i-init : goal.loop-i-init
loop-i-init c =
    let a = c.args in
    (search rules, ap (λ (k : ℕ). first_from (λ j. has_handle a.handle (tree_in a.image.now j)) k 0) (sym (sub-zero a.n)))

pub returns-then-has_handle : goal.returns-then-has_handle
returns-then-has_handle c = record {
  value = sym (c.loop-i.invariant.1
      ∙ first_here _ c.args.n c.loop-i.i (omega arith) (told c.has_handle.ensures c.if-has_handle.true));
  upper_bound = omega arith;
}

pub loop-i-preserved : goal.loop-i-preserved
loop-i-preserved c = (
  omega arith,
  c.loop-i.invariant.1
      ∙ first_on _ c.args.n c.loop-i.i (omega arith) (told c.has_handle.ensures c.if-has_handle.false),
)

pub returns : goal.returns
returns c =
    let n = c.args.n in
    let e : c.loop-i.i ≡ n = omega arith in
    record { value = sym (c.loop-i.invariant.1 ∙ first_none _ n c.loop-i.i (omega arith) ∙ e); upper_bound = omega arith }
