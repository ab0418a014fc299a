-- Size and data one after the other, then the checksum of what counts.
use Rattle.recount.proofs.Sealing.{framed_built}
use Rattle.recount.proofs.asked.framed.Goals as goal

pub returns-clause-bytes_value : goal.returns-clause-bytes_value
returns-clause-bytes_value c = framed_built _ c.args.content.now _ _ _ _ c.four-size.ensures c.put.ensures c.put-2.ensures c.seal.ensures
