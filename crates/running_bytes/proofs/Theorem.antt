-- The running digest over lent bytes: the bytes are always those of a state that feeding leads to, so they give it back. Assumes nothing.
use mathlib.Core.Path.{◌≡◌, refl, sym, ap, ap₂, ◌∙◌}
use mathlib.Core.Bool.{cond}
use mathlib.Core.List.{List, [], ◌∷◌, ◌++◌, append-nil}
use Prim.Native.Nat.{ℕ, ◌≤◌}
use native.Mathlib.Omega.{arith}
use borrow.Author.Tests.{eq-eqb, le-ltb}
use lib.Dec.{eqb}
use lib.ListN.{length, drop_of_length-le, replicate}
use Rattle.running.specs.Running.{longest_total, feed_result, finish_result}
use Rattle.running.specs.Steps.{Step, feed, finish, Result as Given, fed, finished, results, done_after, told}
use Rattle.running.specs.declared.Running.{Running}
use Rattle.std.specs.Prelude.{Result, Ok, Err}
use Rattle.std.specs.Result.{result_unwrap_or}
use Rattle.sha384.specs.Errors.{number_of}
use Rattle.sha384.specs.declared.errors.DigestError.{DigestError}
use Rattle.sha384.specs.declared.errors.DigestError.TheVariants.{TooLong, TotalTooLong, Damaged}
use Rattle.sha384.specs.Sha384.{sha384}
use Rattle.running.proofs.States.{state_of, begun_state, state_small, length_filled, length_hash}
use Rattle.running.proofs.Theorem.{fed_after, done_within, finish_told, from_state}
use Rattle.running_bytes.specs.Coding.{state_size, state_bytes, state_at}
use Rattle.running_bytes.specs.Entries.{begin_number_in, begin_bytes, feed_number_in, feed_bytes, finish_number_in, finish_buffer}
use Rattle.running_bytes.specs.Steps.{results_in, RunningDigestInBytes}
use Rattle.running_bytes.proofs.Back.{length_state, state_back}

-- the bytes of the state after a message
abbrev held : List ℕ → List ℕ
held m = state_bytes (state_of m)

held_size : (m : List ℕ) → length (held m) ≡ state_size
held_size m = length_state (state_of m) (length_filled m) (length_hash m)

held_back : (m : List ℕ) → length m ≤ longest_total → state_at (held m) ≡ state_of m
unfolding state_of
held_back m h = state_back (state_of m) (omega arith) (omega arith) (length_filled m) (length_hash m) (state_small m)

-- the bytes after a feed
feed_number_law : (done m : List ℕ) → length done ≤ longest_total → feed_number_in (held done) m ≡ number_of (feed_result (state_of done) m)
unfolding feed_number_in
feed_number_law done m h = rw (eq-eqb (length (held done)) state_size (held_size done), held_back done h)

feed_held : (done m : List ℕ) → length done ≤ longest_total → feed_bytes (held done) m ≡ held (done_after done m)
unfolding feed_bytes
feed_held done m h = rw (feed_number_law done m h, held_back done h) (stored (feed_result (state_of done) m)) ∙ ap state_bytes (fed_after done m h)
  where
    stored : (r : Result Running DigestError)
        → cond (eqb (number_of r) 0) (state_bytes (result_unwrap_or r (state_of done))) (held done) ≡ state_bytes (result_unwrap_or r (state_of done))
    stored (Ok st) = refl
    stored (Err TooLong) = refl
    stored (Err TotalTooLong) = refl
    stored (Err Damaged) = refl

-- a finish
finish_number : (b done : List ℕ) → length b ≡ 48 → length done ≤ longest_total
    → finished (finish_number_in (held done) (length b)) (finish_buffer (held done) b)
    ≡ finished (number_of (finish_result (state_of done))) (result_unwrap_or (finish_result (state_of done)) (replicate 48 0))
unfolding finish_number_in finish_buffer
finish_number b done l h =
    rw (eq-eqb (length (held done)) state_size (held_size done), held_back done h, finish_told done h, le-ltb (length b) 48 (omega arith))
    (ap (finished 0) (ap (λ (x : List ℕ). sha384 done ++ x) (drop_of_length-le b {i = 48} (omega arith)) ∙ append-nil (sha384 done)))

in_bytes : (b done : List ℕ) (steps : List Step) → length b ≡ 48 → length done ≤ longest_total → results_in b (held done) steps ≡ told done steps
in_bytes b done steps l h = go done steps h ∙ from_state done steps h
  where
    go : (done : List ℕ) (steps : List Step) → length done ≤ longest_total → results_in b (held done) steps ≡ results (state_of done) steps
    go done [] h = refl
    go done (feed m ∷ steps) h =
        ap₂ (λ (x : ℕ) (rs : List Given). fed x ∷ rs) (feed_number_law done m h)
        (ap (λ (s : List ℕ). results_in b s steps) (feed_held done m h) ∙ go (done_after done m) steps (done_within done m h)
        ∙ ap (λ (st : Running). results st steps) (sym (fed_after done m h)))
    go done (finish ∷ steps) h = ap₂ (λ (d : Given) (rs : List Given). d ∷ rs) (finish_number b done l h) (go done steps h)

begin_held : (s : List ℕ) → length s ≡ state_size → begin_bytes s ≡ held []
unfolding begin_number_in begin_bytes
begin_held s e = rw (eq-eqb (length s) state_size e) (ap state_bytes begun_state)

pub running_digest_in_bytes : RunningDigestInBytes
unfolding RunningDigestInBytes
running_digest_in_bytes b s steps l e = ap (λ (x : List ℕ). results_in b x steps) (begin_held s e) ∙ in_bytes b [] steps l (omega arith)
