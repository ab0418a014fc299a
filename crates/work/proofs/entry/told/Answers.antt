-- `told` meets its contract: each digest lies within the inputs. Assumes nothing.
use native.Mathlib.Omega.{arith}
use mathlib.Core.Path.{◌≡◌}
use lib.ListN.{length}
use Rattle.layout.specs.Sizes.{input_bytes}
use Rattle.layout.proofs.Packing.{part_within}
use borrow.Author.Rules.{rules}
use Rattle.work.proofs.entry.told.Goals as goal

pub returns : goal.returns
returns c =
    let inputs = c.args.inputs in
    let long : length inputs ≡ input_bytes = search rules in
    rw (c.bytes_of-2.ensures, c.bytes_of.ensures, part_within 48 inputs 0 (omega (arith, long)), part_within 48 inputs 48 (omega (arith, long)))
