-- Slices fed one after another: the state after the bytes that were read so far. Assumes nothing.
use mathlib.Core.Path.{◌≡◌, refl, sym, ap, ◌∙◌, subst}
use mathlib.Core.Bool.{Bool, true, false, true≢false}
use mathlib.Core.List.{List, [], ◌++◌, append-nil}
use Prim.Native.Nat.{ℕ, ◌+◌, ◌≤◌, ◌<◌}
use native.Mathlib.Omega.{arith}
use borrow.Author.Tests.{lt-ltb, le-ltb, leb-true, leb-false}
use lib.Dec.{eqb, leb}
use lib.ListN.{length, length-append}
use Rattle.std.specs.Prelude.{Option, None, Some, IfSome, Result, Ok, Err}
use Rattle.std.specs.Result.{result_unwrap_or}
use Rattle.std.specs.Io.KnownBytes.{Consumes, IsAtEnd}
use Rattle.std.proofs.KnownBytes.{Consumes-nil, Consumes-trans}
use Rattle.sha384.specs.Entries.{longest}
use Rattle.sha384.specs.Errors.{error_number, number_of}
use Rattle.sha384.specs.declared.errors.DigestError.{DigestError}
use Rattle.sha384.proofs.Refused.{error_not_zero}
use Rattle.running.specs.Running.{longest_total, begun, feed_result, finish_result}
use Rattle.running.specs.Steps.{number_after, done_after}
use Rattle.running.specs.declared.Running.{Running}
use Rattle.running.proofs.States.{state_of, begun_state}
use Rattle.running.proofs.Theorem.{number_law, fed_after, finish_told}
use Rattle.sha384sum.specs.Summed.{Digests}

-- the state after n bytes, which a reader that had a gave
abbrev pub Read : Option (List ℕ) → Option (List ℕ) → ℕ → Running → Type 0
Read a b n st = (done : List ℕ) × (length done ≡ n) × (length done ≤ longest_total) × (st ≡ state_of done) × Consumes a b done

-- a slice that fits is accepted, and one that does not is refused
fits : (done m : List ℕ) → length m ≤ longest → length done + length m ≤ longest_total → done_after done m ≡ done ++ m
unfolding number_after done_after
fits done m s h = rw (le-ltb longest (length m) s, le-ltb longest_total (length done + length m) h)

fits_number : (done m : List ℕ) → length m ≤ longest → length done + length m ≤ longest_total → number_after done m ≡ 0
unfolding number_after
fits_number done m s h = rw (le-ltb longest (length m) s, le-ltb longest_total (length done + length m) h)

too_long_number : (done m : List ℕ) → length m ≤ longest → longest_total < length done + length m → number_after done m ≡ 16
unfolding number_after
too_long_number done m s h = rw (le-ltb longest (length m) s, lt-ltb longest_total (length done + length m) h)

-- what one slice more comes to
pub accepted : (a b c : Option (List ℕ)) (n : ℕ) (st : Running) (m : List ℕ) (after : Running) → Read a b n st → length m ≤ longest
    → feed_result st m ≡ Ok after → Consumes b c m → Read a c (n + length m) after
accepted a b c n st m after r s e more =
    let done = r.0 in
    let told : feed_result (state_of done) m ≡ Ok after = ap (λ (x : Running). feed_result x m) (sym r.3) ∙ e in
    let number : number_after done m ≡ 0 = sym (number_law done m r.2) ∙ ap number_of told in
    by (leb (length done + length m) longest_total) refl told number
  where
    by : (t : Bool) → leb (length r.0 + length m) longest_total ≡ t → feed_result (state_of r.0) m ≡ Ok after → number_after r.0 m ≡ 0
        → Read a c (n + length m) after
    by true p told z =
        let within = leb-true (length r.0 + length m) longest_total p in (
          r.0 ++ m,
          length-append r.0 m ∙ ap (λ (k : ℕ). k + length m) r.1,
          omega (arith, length-append r.0 m),
          sym (ap (λ (x : Result Running DigestError). result_unwrap_or x (state_of r.0)) told) ∙ fed_after r.0 m r.2 ∙ ap state_of (fits r.0 m s within),
          Consumes-trans a b c r.0 m r.4 more,
        )
    by false p told z = absurd (omega (arith, z, too_long_number r.0 m s (leb-false (length r.0 + length m) longest_total p)))

pub one_more : (a b c : Option (List ℕ)) (n k : ℕ) (st : Running) (m : List ℕ) (after : Running) → Read a b n st → length m ≤ longest
    → feed_result st m ≡ Ok after → Consumes b c m → n + length m ≡ k → Read a c k after
one_more a b c n k st m after r s e more same = subst (λ (j : ℕ). Read a c j after) same (accepted a b c n st m after r s e more)

consumed_length : (a c : Option (List ℕ)) (bs : List ℕ) (n : ℕ) → Consumes a c bs → n < length bs → IfSome a (λ xs. n < length xs)
consumed_length None c bs n p h = tt
consumed_length (Some x) None bs n p h = absurd p
consumed_length (Some x) (Some y) bs n p h = omega (arith, ap length p, length-append bs y)

pub refused : (a b c : Option (List ℕ)) (n : ℕ) (st : Running) (m : List ℕ) (e : DigestError) → Read a b n st → length m ≤ longest
    → feed_result st m ≡ Err e → Consumes b c m → IfSome a (λ xs. longest_total < length xs)
refused a b c n st m e r s h more =
    let told : error_number e ≡ number_after r.0 m = sym (ap number_of (ap (λ (x : Running). feed_result x m) (sym r.3) ∙ h)) ∙ number_law r.0 m r.2 in
    by (leb (length r.0 + length m) longest_total) refl told
  where
    by : (t : Bool) → leb (length r.0 + length m) longest_total ≡ t → error_number e ≡ number_after r.0 m → IfSome a (λ xs. longest_total < length xs)
    by true p told =
        let none = told ∙ fits_number r.0 m s (leb-true (length r.0 + length m) longest_total p) in
        absurd (true≢false (sym (ap (λ (k : ℕ). eqb k 0) none) ∙ error_not_zero e))
    by false p told =
        consumed_length a c (r.0 ++ m) longest_total (Consumes-trans a b c r.0 m r.4 more)
        (omega (arith, leb-false (length r.0 + length m) longest_total p, length-append r.0 m))

-- before any slice
pub at_first : (a : Option (List ℕ)) (st : Running) → st ≡ begun → Read a a 0 st
at_first a st e = ([], refl, omega arith, e ∙ begun_state, Consumes-nil a)

-- the reader is at its end: the digest is that of all that it had
pub ended : (a c : Option (List ℕ)) (n : ℕ) (st : Running) → Read a c n st → IsAtEnd c → IfSome a (λ xs. Digests xs st)
ended None c n st r e = tt
ended (Some x) None n st r e = absurd r.4
ended (Some x) (Some y) n st r e =
    let all : r.0 ≡ x = sym (r.4 ∙ ap (λ (l : List ℕ). r.0 ++ l) e ∙ append-nil r.0) in
    subst (λ (l : List ℕ). Digests l st) all (r.2, ap finish_result r.3 ∙ finish_told r.0 r.2)
