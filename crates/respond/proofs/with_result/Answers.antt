-- The result's four bytes are copied to the front.
use mathlib.Core.Path.{ap, ◌∙◌}
use mathlib.Core.List.{List, ◌++◌}
use Prim.Native.Nat.{ℕ, ◌+◌}
use lib.ListN.{drop}
use Rattle.layout.specs.Sizes.{answer_max}
use Rattle.layout.specs.declared.bytes.Bytes.{Bytes}
use Rattle.respond.proofs.with_result.Goals as goal

pub returns : goal.returns
returns c =
    let a = c.args in
    ap (λ (l : List ℕ). response (4 + a.n) (l ++ drop 4 a.space)) (c.copy_from_slice.ensures.after ∙ c.four-result.ensures)
  where
    response : ℕ → List ℕ → Bytes (4 + answer_max)
    response n l = record { len = n; bytes = l }
