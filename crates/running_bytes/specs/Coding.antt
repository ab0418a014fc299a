-- A running state as the bytes that a caller holds, numbers little endian: total, number waiting, buffer, hash value. Assumes nothing.
use Rattle.std.specs.Prelude.{ℕ, ◌+◌, ◌-◌, ◌*◌, List, [], ◌∷◌, ◌++◌, take, drop}
use Rattle.layout.specs.Words.{tab, le64, bytes8}
use Rattle.running.specs.declared.Running.{Running}

-- where the parts stand, and where they end
abbrev pub total_in : ℕ
total_in = 0

abbrev pub waiting_in : ℕ
waiting_in = 8

abbrev pub buffer_in : ℕ
buffer_in = 16

abbrev pub hash_in : ℕ
hash_in = 144

abbrev pub state_size : ℕ
state_size = 208

-- the bytes of words, one after another
abbrev pub long_bytes : List ℕ → List ℕ
long_bytes [] = []
long_bytes (x ∷ xs) = bytes8 x ++ long_bytes xs

-- n words of the bytes from an index on
unfoldable pub longs_at : ℕ → List ℕ → ℕ → List ℕ
longs_at n l at = tab n (λ k. le64 l (at + 8 * k))

-- the bytes of a state
unfoldable pub state_bytes : Running → List ℕ
state_bytes st = bytes8 st.total ++ (bytes8 st.waiting ++ (st.buffer ++ long_bytes st.hash))

-- the state that bytes are
unfoldable pub state_at : List ℕ → Running
state_at l =
    record {
      total = le64 l total_in;
      waiting = le64 l waiting_in;
      buffer = take (hash_in - buffer_in) (drop buffer_in l);
      hash = longs_at 8 l hash_in;
    }
