-- Of a longer input only the front that was read is used.
use Rattle.std.proofs.Common.{rules, length}
use Rattle.mailbox.proofs.Responses.{exchanged}
use Rattle.mailbox.proofs.exchange.Goals as goal

pub returns-clause-written : goal.returns-clause-written
returns-clause-written g c = exchanged _ _ _ _ (length c.read_whole.new.buf) (search rules) (search rules) c.in_ok-answer.ensures
