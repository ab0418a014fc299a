-- What the running digest's entries over lent bytes answer, for any bytes. Assumes nothing.
use Rattle.std.specs.Prelude.{ℕ, cond, List, ◌++◌, eqb, ltb, length, drop, replicate}
use Rattle.std.specs.Result.{result_unwrap_or}
use Rattle.sha384.specs.Errors.{number_of}
use Rattle.running.specs.Running.{begun, feed_result, finish_result}
use Rattle.running_bytes.specs.Coding.{state_size, state_bytes, state_at}

-- 28 for a buffer that is not as long as a state, before all else
abbrev sized : List ℕ → ℕ → ℕ
sized s n = cond (eqb (length s) state_size) n 28

-- begin: its number, and the bytes afterwards
unfoldable pub begin_number_in : List ℕ → ℕ
begin_number_in s = sized s 0

unfoldable pub begin_bytes : List ℕ → List ℕ
begin_bytes s = cond (eqb (begin_number_in s) 0) (state_bytes begun) s

-- feed: its number, and the bytes afterwards, which stay as they were where it is refused
unfoldable pub feed_number_in : List ℕ → List ℕ → ℕ
feed_number_in s m = sized s (number_of (feed_result (state_at s) m))

unfoldable pub feed_bytes : List ℕ → List ℕ → List ℕ
feed_bytes s m = cond (eqb (feed_number_in s m) 0) (state_bytes (result_unwrap_or (feed_result (state_at s) m) (state_at s))) s

-- finish: its number for a buffer of n bytes (8, one shorter than a digest, comes last), and the buffer afterwards
unfoldable pub finish_number_in : List ℕ → ℕ → ℕ
finish_number_in s n = sized s (cond (eqb (number_of (finish_result (state_at s))) 0) (cond (ltb n 48) 8 0) (number_of (finish_result (state_at s))))

unfoldable pub finish_buffer : List ℕ → List ℕ → List ℕ
finish_buffer s b = cond (eqb (finish_number_in s (length b)) 0) (result_unwrap_or (finish_result (state_at s)) (replicate 48 0) ++ drop 48 b) b
