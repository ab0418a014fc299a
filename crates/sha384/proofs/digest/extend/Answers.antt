-- `sha384::digest::extend` meets its contract: the digest of the two values joined, which have a fixed length. Assumes nothing.
use Rattle.std.proofs.Common.{rules, ◌≡◌, ◌∙◌, ◌+◌, length, ap, ap₂}
use Rattle.sha384.specs.Sha384.{sha384}
use Rattle.sha384.specs.Entries.{extended}
use Rattle.sha384.proofs.digest.extend.Goals as goal

pub returns : goal.returns
unfolding extended
returns c =
    let x : length c.args.x ≡ 48 = search rules in
    let d : length c.args.d ≡ 48 = search rules in
    c.hash.ensures ∙ ap sha384 (c.joined-message.ensures.whole (ap₂ (λ m n. m + n) x d))
