-- The sum is that of the code's four bytes and the bytes; the rest is modulo 2^32 on both sides.
use Rattle.std.proofs.Common.{rules, ◌≡◌, ◌%◌, ◌^◌, arith}
use Rattle.layout.specs.Words.{bytes4}
use Rattle.message.specs.Checksum.{sum_of, checksum_of}
use Rattle.message.proofs.checksum.Goals as goal

pub returns : goal.returns
unfolding checksum_of
returns c =
    let s : c.sum_bytes.result ≡ sum_of (bytes4 c.args.code) % 2 ^ 32 = search rules in
    omega (arith, s, c.sum_bytes-2.ensures)
