-- The callee's equation: the digests fill the entry's bytes.
use Rattle.std.proofs.Common.{rules, ◌≡◌, length, arith}
use Rattle.boot.proofs.inputs.digests_of.Goals as goal

pub returns : goal.returns
returns c =
    let m : length c.args.x.runtime ≡ 48 = search rules in
    let n : length c.args.x.manifest ≡ 48 = search rules in
    c.joined.ensures.whole (omega (arith, m, n))
