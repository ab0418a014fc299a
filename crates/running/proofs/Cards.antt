-- The cases that request 12 is held to: three by computation, the order by the tests' results. Assumes nothing.
use mathlib.Core.Path.{◌≡◌, refl}
use mathlib.Core.Bool.{true, false}
use mathlib.Core.List.{List, []}
use Prim.Native.Nat.{ℕ, ◌+◌, ◌^◌, ◌≤◌, ◌<◌}
use borrow.Author.Tests.{lt-ltb, le-ltb}
use lib.ListN.{length}
use Rattle.sha384.specs.Entries.{longest}
use Rattle.sha384.specs.Errors.{number_of}
use Rattle.running.specs.Running.{longest_total, agree, agrees, admitted, feed_result, finish_result}
use Rattle.running.specs.declared.Running.{Running}
use Rattle.running.specs.Cards.{counting, Refused, RunningCards}

refused : (st : Running) → agrees st ≡ false → Refused st
unfolding admitted feed_result finish_result
refused st h = record { feed = λ m. rw h; finish = rw h }

full_block : (b h : List ℕ) → agrees (counting 128 128 b h) ≡ false
unfolding agree
full_block b h = refl

too_large : (b h : List ℕ) → agrees (counting (2 ^ 32) 0 b h) ≡ false
unfolding agree
too_large b h = refl

at_the_full_total : (b h : List ℕ) → number_of (feed_result (counting longest_total 127 b h) []) ≡ 0
unfolding agree admitted feed_result
at_the_full_total b h = refl

too_long : (st : Running) (m : List ℕ) → agrees st ≡ true → longest < length m → number_of (feed_result st m) ≡ 10
unfolding admitted feed_result
too_long st m h l = rw (h, lt-ltb longest (length m) l)

beyond : (st : Running) (m : List ℕ) → agrees st ≡ true → length m ≤ longest → longest_total < st.total + length m → number_of (feed_result st m) ≡ 16
unfolding admitted feed_result
beyond st m h s l = rw (h, le-ltb longest (length m) s, lt-ltb longest_total (st.total + length m) l)

pub running_cards : RunningCards
running_cards =
    record {
      largest = refl;
      full_block_waits = λ b h. refused (counting 128 128 b h) (full_block b h);
      total_too_large = λ b h. refused (counting (2 ^ 32) 0 b h) (too_large b h);
      empty_at_the_full_total = at_the_full_total;
      counts_first = refused;
      length_next = too_long;
      total_last = beyond;
    }
