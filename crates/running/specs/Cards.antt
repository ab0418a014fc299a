-- The cases that document 02's request 12 is held to, for every buffer, hash value and slice. Assumes nothing.
use Rattle.std.specs.Prelude.{ℕ, ◌+◌, ◌-◌, ◌^◌, ◌≤◌, ◌<◌, ◌≡◌, true, false, List, [], length}
use Rattle.sha384.specs.Entries.{longest}
use Rattle.sha384.specs.Errors.{number_of}
use Rattle.running.specs.declared.Running.{Running}
use Rattle.running.specs.Running.{longest_total, agrees, feed_result, finish_result}

-- the state with these counts, a buffer and a hash value
abbrev pub counting : ℕ → ℕ → List ℕ → List ℕ → Running
counting total waiting buffer hash = record { total = total; waiting = waiting; buffer = buffer; hash = hash }

-- a state that every feed and every finish refuses with 27
pub record Refused (st : Running) : Type 0 where
  pub feed : (m : List ℕ) → number_of (feed_result st m) ≡ 27
  pub finish : number_of (finish_result st) ≡ 27

pub record RunningCards : Type 0 where
  -- the largest total
  pub largest : longest_total ≡ 2 ^ 32 - 1
  -- 128 bytes waiting at a total of 128
  pub full_block_waits : (buffer hash : List ℕ) → Refused (counting 128 128 buffer hash)
  -- a total of 2^32 with none waiting
  pub total_too_large : (buffer hash : List ℕ) → Refused (counting (2 ^ 32) 0 buffer hash)
  -- the full total takes an empty slice
  pub empty_at_the_full_total : (buffer hash : List ℕ) → number_of (feed_result (counting longest_total 127 buffer hash) []) ≡ 0
  -- 27 before 10 before 16
  pub counts_first : (st : Running) → agrees st ≡ false → Refused st
  pub length_next : (st : Running) (m : List ℕ) → agrees st ≡ true → longest < length m → number_of (feed_result st m) ≡ 10
  pub total_last : (st : Running) (m : List ℕ) → agrees st ≡ true → length m ≤ longest → longest_total < st.total + length m → number_of (feed_result st m) ≡ 16
