-- `sha384::digest::digest` meets its contract: the digest of a message that is not too long. Assumes nothing.
use lib.ListN.{length}
use native.Mathlib.Omega.{arith}
use borrow.Author.Tests.{le-leb, lt-leb}
use Rattle.sha384.specs.Entries.{longest, digest_of}
use Rattle.sha384.proofs.digest.digest.Goals as goal

pub returns-then-message-gt-LONGEST : goal.returns-then-message-gt-LONGEST
unfolding digest_of
returns-then-message-gt-LONGEST c = rw (lt-leb (length c.args.message.now) longest (omega arith))

pub returns : goal.returns
unfolding digest_of
returns c = rw (le-leb (length c.args.message.now) longest (omega arith), c.hash.ensures)
