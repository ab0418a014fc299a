-- The theorem of the running digest over lent bytes. Assumes nothing.
use Rattle.std.specs.Prelude.{◌≡◌, List, [], ◌∷◌, ℕ, length}
use Rattle.running.specs.Steps.{Step, feed, finish, Result, fed, finished, told}
use Rattle.running_bytes.specs.Coding.{state_size}
use Rattle.running_bytes.specs.Entries.{begin_bytes, feed_number_in, feed_bytes, finish_number_in, finish_buffer}

-- the entries one after another on one buffer of bytes; each finish has a buffer b of 48 bytes
abbrev pub results_in : List ℕ → List ℕ → List Step → List Result
results_in b s [] = []
results_in b s (feed m ∷ steps) = fed (feed_number_in s m) ∷ results_in b (feed_bytes s m) steps
results_in b s (finish ∷ steps) =
    finished (finish_number_in s (length b)) (finish_buffer s b) ∷ results_in b s steps

-- from begin in any bytes of a state's size, the steps give what document 02 says of them
unfoldable pub RunningDigestInBytes : Type 0
RunningDigestInBytes = (b s : List ℕ) (steps : List Step) → length b ≡ 48 → length s ≡ state_size → results_in b (begin_bytes s) steps ≡ told [] steps
