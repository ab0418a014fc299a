-- The running digest of document 02, request 12: what begin, feed and finish answer, for every state value. Assumes nothing.
use Rattle.std.specs.Prelude.{ℕ, ◌+◌, ◌-◌, ◌*◌, ◌/◌, ◌%◌, Bool, cond, not, ◌&&◌, List, ◌++◌, eqb, leb, ltb, length, take, drop, replicate, Result, Ok, Err}
use Rattle.sha_block.specs.Blocks.{hash_words, absorbed}
use Rattle.sha384.specs.Constants.{constants, initial_of}
use Rattle.sha384.specs.Entries.{longest, concluded}
use Rattle.sha384.specs.declared.errors.DigestError.{DigestError}
use Rattle.sha384.specs.declared.errors.DigestError.TheVariants.{TooLong, TotalTooLong, Damaged}
use Rattle.running.specs.declared.Running.{Running}

-- "a total of at most 2^32 minus 1 bytes"
abbrev pub longest_total : ℕ
longest_total = 0xFFFFFFFF

-- the bytes of l with zeros behind them, a block in all
unfoldable pub filled : List ℕ → List ℕ
filled l = l ++ replicate (128 - length l) 0

-- begin: nothing counted, nothing waiting, FIPS 180-4's initial hash value
unfoldable pub begun : Running
begun = record { total = 0; waiting = 0; buffer = replicate 128 0; hash = hash_words initial_of }

-- the number waiting is the total's "remainder by 128", and the total is not "larger"
unfoldable pub agree : ℕ → ℕ → Bool
agree waiting total = eqb waiting (total % 128) && leb total longest_total

abbrev pub agrees : Running → Bool
agrees st = agree st.waiting st.total

-- x where a slice of n bytes is accepted; else why it is refused, "In this order": counts that disagree or a larger total (27), a longer slice (10),
-- a total that would be larger (16)
unfoldable pub admitted : {A : Type 0} → Running → ℕ → A → Result A DigestError
admitted st n x =
    cond (not (agrees st)) (Err Damaged) (cond (ltb longest n) (Err TooLong) (cond (ltb longest_total (st.total + n)) (Err TotalTooLong) (Ok x)))

-- the bytes that wait, and the slice behind them
abbrev pub waiting_then : Running → List ℕ → List ℕ
waiting_then st m = take st.waiting st.buffer ++ m

-- the state after an accepted slice: the whole blocks are taken, the bytes past them wait
unfoldable pub fed_of : Running → List ℕ → Running
fed_of st m =
    record {
      total = st.total + length m;
      waiting = length (waiting_then st m) % 128;
      buffer = filled (drop (length (waiting_then st m) / 128 * 128) (waiting_then st m));
      hash = absorbed constants st.hash (waiting_then st m) (length (waiting_then st m) / 128);
    }

-- feed: the state after the slice, or why it is refused
unfoldable pub feed_result : Running → List ℕ → Result Running DigestError
feed_result st m = admitted st (length m) (fed_of st m)

-- finish: the digest, or 27
unfoldable pub finish_result : Running → Result (List ℕ) DigestError
finish_result st = cond (agrees st) (Ok (concluded st.hash st.buffer st.total)) (Err Damaged)
