-- `sha_block::rounds::round` meets its contract: the two sums of a round, and the other working variables one place on. Assumes nothing.
use Rattle.std.proofs.Common.{ℕ, ◌+◌, ◌%◌, ◌^◌, ap, ap₂}
use Rattle.sha_block.specs.Rounds.{variables, round_of}
use Rattle.sha_block.proofs.rounds.round.Goals as goal

pub returns : goal.returns
unfolding round_of
returns c =
    let s = c.args.s in
    let t1 = c.temp1-t1.ensures in
    let a = ap₂ (λ (x y : ℕ). (x + y) % 2 ^ 64) t1 c.temp2-t2.ensures in
    let e = ap (λ (x : ℕ). (s.d + x) % 2 ^ 64) t1 in
    λ i. variables (a i) s.a s.b s.c (e i) s.e s.f s.g
