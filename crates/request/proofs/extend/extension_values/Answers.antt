-- The callees, put together; the digest lies within the request.
use Rattle.std.proofs.Common.{rules, ◌≡◌, length, arith}
use Rattle.layout.specs.Words.{zeros}
use Rattle.layout.proofs.Packing.{part_within}
use Rattle.layout.proofs.Extendable.{extendable_to}
use Rattle.request.proofs.extend.extension_values.Goals as goal

pub extended_register-words-requires : goal.extended_register-words-requires
extended_register-words-requires c =
    omega (arith, extendable_to c.args.register c.requires.1)

pub returns : goal.returns
unfolding zeros
returns c =
    let digest = part_within 48 c.args.bytes.now 8 (omega (arith, c.requires.0)) in
    let long : length c.bytes_of-digest.result ≡ 48 = search rules in
    rw (c.joined-inputs.ensures.whole (omega (arith, long)), c.extended_register-words.ensures, c.bytes_of-digest.ensures, ← c.requires.2, digest)
