-- The five terms of the first sum of a round.
use Rattle.std.proofs.Common.{refl, ℕ, ◌+◌, ◌%◌, ◌^◌, ◌∙◌, ap₂}
use Rattle.sha_block.specs.Rounds.{T1}
use Rattle.sha_block.proofs.Sums.{sum5}
use Rattle.sha_block.proofs.rounds.temp1.Goals as goal

pub returns : goal.returns
unfolding T1
returns c = let a = c.args in
    sum5 _ _ _ _ _ _ _ _ _ refl refl refl refl
    ∙ ap₂ (λ (x y : ℕ). (a.h + x + y + a.k + a.w) % 2 ^ 64) c.big1.ensures
    c.choose.ensures
