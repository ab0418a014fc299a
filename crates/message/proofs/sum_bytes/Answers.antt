-- The fold over the bytes, each step modulo 2^32.
use Rattle.std.proofs.Common.{rules, ◌≡◌, ◌%◌, ◌^◌, ◌+◌, ℕ, ◌∙◌}
use Rattle.std.specs.List.{fold}
use Rattle.message.proofs.Sums.{sum_folded}
use Rattle.message.proofs.sum_bytes.Goals as goal

pub returns : goal.returns
returns c =
    let f : c.fold.result ≡ fold (λ (r b : ℕ). (r + b) % 2 ^ 32) 0 c.args.s.now = search rules in
    f ∙ sum_folded c.args.s.now
