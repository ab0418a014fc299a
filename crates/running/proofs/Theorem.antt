-- The running digest over every list of steps: the state after the accepted bytes, and what the entries answer from it. Assumes nothing.
use mathlib.Core.Path.{◌≡◌, refl, ap, ap₂, ◌∙◌}
use mathlib.Core.Bool.{Bool, true, false, cond}
use mathlib.Core.List.{List, [], ◌∷◌, ◌++◌}
use Prim.Native.Nat.{ℕ, ◌+◌, ◌≤◌}
use native.Mathlib.Omega.{arith}
use borrow.Author.Tests.{ltb-false}
use lib.Dec.{eqb, ltb}
use lib.ListN.{length, length-append, replicate}
use Rattle.sha384.specs.Sha384.{sha384}
use Rattle.sha384.specs.Entries.{longest}
use Rattle.sha384.specs.Errors.{number_of}
use Rattle.sha384.specs.declared.errors.DigestError.{DigestError}
use Rattle.sha384.specs.declared.errors.DigestError.TheVariants.{TooLong, TotalTooLong}
use Rattle.std.specs.Prelude.{Result, Ok, Err}
use Rattle.std.specs.Result.{result_unwrap_or}
use Rattle.running.specs.Running.{longest_total, admitted, fed_of, feed_result, finish_result}
use Rattle.running.specs.declared.Running.{Running}
use Rattle.running.specs.Steps.{Step, feed, finish, Result as Given, fed, finished, results, number_after, done_after, told, RunningDigest}
use Rattle.running.proofs.States.{state_of, begun_state, state_agrees, state_fed, state_concluded}

-- a feed's number is told by the bytes before it
pub number_law : (done m : List ℕ) → length done ≤ longest_total → number_of (feed_result (state_of done) m) ≡ number_after done m
unfolding feed_result admitted number_after state_of
number_law done m h = rw (state_agrees done h) (by (ltb longest (length m)) (ltb longest_total (length done + length m)))
  where
    by : (b c : Bool) → number_of (cond {A = Result Running DigestError} b (Err TooLong) (cond c (Err TotalTooLong) (Ok (fed_of (state_of done) m)))) ≡ cond b 10 (cond c 16 0)
    by true c = refl
    by false true = refl
    by false false = refl

-- an accepted slice leaves the total within its bound
within : (done m : List ℕ) (b c : Bool) → ltb longest (length m) ≡ b → ltb longest_total (length done + length m) ≡ c → length done ≤ longest_total
    → length (cond (eqb (cond b 10 (cond c 16 0)) 0) (done ++ m) done) ≤ longest_total
within done m true c p q h = h
within done m false true p q h = h
within done m false false p q h = omega (arith, ltb-false longest_total (length done + length m) q, length-append done m)

pub finish_told : (done : List ℕ) → length done ≤ longest_total → finish_result (state_of done) ≡ Ok (sha384 done)
unfolding finish_result
finish_told done h = rw (state_agrees done h) (ap Ok (state_concluded done))

-- a feed leaves the state after the bytes that are accepted then, and these stay within the bound
pub fed_after : (done m : List ℕ) → length done ≤ longest_total
    → result_unwrap_or (feed_result (state_of done) m) (state_of done) ≡ state_of (done_after done m)
unfolding feed_result admitted number_after done_after state_of
fed_after done m h = rw (state_agrees done h) (by (ltb longest (length m)) (ltb longest_total (length done + length m)))
  where
    by : (b c : Bool)
        → result_unwrap_or (cond {A = Result Running DigestError} b (Err TooLong) (cond c (Err TotalTooLong) (Ok (fed_of (state_of done) m)))) (state_of done)
        ≡ state_of (cond (eqb (cond b 10 (cond c 16 0)) 0) (done ++ m) done)
    by true c = refl
    by false true = refl
    by false false = state_fed done m

pub done_within : (done m : List ℕ) → length done ≤ longest_total → length (done_after done m) ≤ longest_total
unfolding number_after done_after
done_within done m h = within done m (ltb longest (length m)) (ltb longest_total (length done + length m)) refl refl h

pub from_state : (done : List ℕ) (steps : List Step) → length done ≤ longest_total → results (state_of done) steps ≡ told done steps
from_state done [] h = refl
from_state done (feed m ∷ steps) h =
    ap₂ (λ (x : ℕ) (rs : List Given). fed x ∷ rs) (number_law done m h)
    (ap (λ (st : Running). results st steps) (fed_after done m h) ∙ from_state (done_after done m) steps (done_within done m h))
from_state done (finish ∷ steps) h =
    ap₂ (λ (d : Result (List ℕ) DigestError) (rs : List Given). finished (number_of d) (result_unwrap_or d (replicate 48 0)) ∷ rs) (finish_told done h)
    (from_state done steps h)

pub running_digest : RunningDigest
unfolding RunningDigest
running_digest steps = ap (λ (st : Running). results st steps) begun_state ∙ from_state [] steps (omega arith)
