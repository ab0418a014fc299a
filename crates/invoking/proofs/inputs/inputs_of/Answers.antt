-- The callees, put together.
use Rattle.std.proofs.Common.{rules, ◌≡◌, ◌++◌, ◌∙◌, ℕ, List, ap, length, arith}
use Rattle.invoking.proofs.inputs.inputs_of.Goals as goal

pub returns : goal.returns
returns c =
    let m : length c.args.digest ≡ 48 = search rules in
    let n : length c.handles.result ≡ 48 = search rules in
    c.joined.ensures.whole (omega (arith, m, n)) ∙ ap (λ (x : List ℕ). c.args.digest ++ x) c.handles.ensures
