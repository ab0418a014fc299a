-- The digest's answers, by their tests. Assumes nothing.
use mathlib.Core.Path.{refl}
use borrow.Author.Tests.{le-leb, lt-leb}
use lib.ListN.{length}
use Rattle.sha384.specs.Entries.{longest, digest_of}
use Rattle.running.specs.Running.{finish_result}
use Rattle.cards.specs.Digests.{Digests}

pub digests : Digests
unfolding digest_of finish_result
digests =
    record {
      digest = λ m h. rw (le-leb (length m) longest h) (record { number_is = refl; bytes_are = refl });
      too_long = λ m h. rw (lt-leb (length m) longest h) (record { number_is = refl; bytes_are = refl });
      finish = λ st h. rw h (record { number_is = refl; bytes_are = refl });
      damaged = λ st h. rw h (record { number_is = refl; bytes_are = refl });
    }
