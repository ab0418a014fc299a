-- The running digest's theorem: a list of steps on one state, and what document 02 says of them. Assumes nothing.
use Rattle.std.specs.Prelude.{ℕ, ◌+◌, ◌≡◌, cond, List, [], ◌∷◌, ◌++◌, eqb, ltb, length, replicate}
use Rattle.std.specs.Result.{result_unwrap_or}
use Rattle.sha384.specs.Sha384.{sha384}
use Rattle.sha384.specs.Entries.{longest}
use Rattle.sha384.specs.Errors.{number_of}
use Rattle.running.specs.declared.Running.{Running}
use Rattle.running.specs.Running.{longest_total, begun, feed_result, finish_result}

-- a feed of a slice, or a finish
pub data Step : Type 0 where
  feed : List ℕ → Step
  finish : Step

-- a feed's number, or a finish's number and bytes
pub data Result : Type 0 where
  fed : ℕ → Result
  finished : ℕ → List ℕ → Result

-- the entries one after another, each given the state that the last left, which a refused feed leaves as it stood; a refused finish gives "48 zero bytes"
abbrev pub results : Running → List Step → List Result
results st [] = []
results st (feed m ∷ steps) = fed (number_of (feed_result st m)) ∷ results (result_unwrap_or (feed_result st m) st) steps
results st (finish ∷ steps) = finished (number_of (finish_result st)) (result_unwrap_or (finish_result st) (replicate 48 0)) ∷ results st steps

-- a feed's number, told from the bytes accepted before it alone
unfoldable pub number_after : List ℕ → List ℕ → ℕ
number_after done m = cond (ltb longest (length m)) 10 (cond (ltb longest_total (length done + length m)) 16 0)

-- the accepted bytes after a feed
unfoldable pub done_after : List ℕ → List ℕ → List ℕ
done_after done m = cond (eqb (number_after done m) 0) (done ++ m) done

-- what document 02 says of the steps, told from the accepted bytes alone: no state and no block in it
abbrev pub told : List ℕ → List Step → List Result
told done [] = []
told done (feed m ∷ steps) = fed (number_after done m) ∷ told (done_after done m) steps
told done (finish ∷ steps) = finished 0 (sha384 done) ∷ told done steps

-- "wherever cut, empty ones too": in every list of steps after begin, each number and each digest is told by the bytes accepted before it
unfoldable pub RunningDigest : Type 0
RunningDigest = (steps : List Step) → results begun steps ≡ told [] steps
