-- The four terms of the schedule's next word, by the leaves' contracts.
use Rattle.std.proofs.Common.{refl, ℕ, ◌+◌, ◌%◌, ◌^◌, ◌∙◌, ap₂}
use Rattle.sha_block.specs.Schedule.{next_of}
use Rattle.sha_block.proofs.Sums.{sum4}
use Rattle.sha_block.proofs.rounds.next.Goals as goal

pub returns : goal.returns
unfolding next_of
returns c = let a = c.args in
    sum4 _ _ _ _ _ _ _ refl refl refl
    ∙ ap₂ (λ (x y : ℕ). (x + a.w7 + y + a.w16) % 2 ^ 64) c.small1.ensures c.small0.ensures
