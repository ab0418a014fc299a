-- The callees, put together; the digest lies within the request.
use Rattle.std.proofs.Common.{rules, ◌≡◌, length, arith}
use Rattle.layout.specs.Words.{zeros}
use Rattle.layout.proofs.Packing.{part_within}
use Rattle.request.proofs.stash.stash_values.Goals as goal

pub returns : goal.returns
unfolding zeros
returns c =
    let digest = part_within 48 c.args.bytes.now 8 (omega (arith, c.requires.0)) in
    let long : length c.bytes_of-digest.result ≡ 48 = search rules in
    rw (
      c.joined-inputs.ensures.whole (omega (arith, long)),
      c.node_row-node.ensures,
      c.extended_register-register.ensures,
      c.extend-cumulative.ensures,
      c.bytes_of-digest.ensures,
      c.read32-kind.ensures,
      c.read32-svn.ensures,
      ← c.requires.2,
      digest,
    )
