-- The first 2 i characters are the digits of the first i bytes.
use Rattle.std.proofs.Common.{◌≡◌, ◌*◌, length, take}
use Rattle.sha384sum.specs.Hex.{hex_of}
use Rattle.sha384sum.proofs.hex.Given as goal

abbrev pub invariant-loop-i : goal.invariant-loop-i
invariant-loop-i l = (length l.out ≡ 96) × (take (2 * l.i) l.out ≡ hex_of (take l.i l.byte-items))
