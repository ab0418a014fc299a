-- The fields one after another, then the checksum.
use mathlib.Core.Path.{◌≡◌}
use lib.ListN.{length}
use Rattle.recount.proofs.Sealing.{stash_built}
use borrow.Author.Rules.{rules}
use Rattle.recount.proofs.asked.stash_bytes.Goals as goal

pub returns : goal.returns
returns c =
    let long : length c.args.digest ≡ 48 = search rules in
    stash_built _ c.args.measured c.args.svn c.args.digest _ _ _ _ _ _ long c.four-value.ensures c.put.ensures c.put-2.ensures c.four-last.ensures
    c.put-3.ensures c.seal.ensures
