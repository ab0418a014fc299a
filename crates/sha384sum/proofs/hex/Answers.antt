-- One byte more.
use Rattle.std.proofs.Common.{rules}
use Rattle.sha384sum.proofs.Digits.{hex_more}
use Rattle.sha384sum.proofs.hex.Goals as goal

pub loop-i-preserved : goal.loop-i-preserved
loop-i-preserved c =
    let l = c.loop-i in (
      search rules,
      hex_more c.args.bytes l.out l.i _ _ (search rules) (search rules) l.invariant.1 c.digit.ensures c.digit-in-loop-i.ensures,
    )
