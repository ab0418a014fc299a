-- A digest is 48 bytes, each below 256, and so is what is extended by digests; and what the digest entry answers to a message that is not too long. Assumes nothing.
use mathlib.Core.Path.{◌≡◌, refl, sym, ap}
use mathlib.Core.Bool.{Bool, true, false, true≢false, cond}
use mathlib.Core.List.{List, [], ◌∷◌, ◌++◌}
use Prim.Native.Nat.{ℕ, zero, suc, ◌≤◌, ◌<◌}
use native.Mathlib.Omega.{arith}
use borrow.Author.Tests.{le-leb, leb-true, leb-false}
use lib.Dec.{leb}
use lib.ListN.{length, get_or}
use Rattle.std.specs.Prelude.{Result, Ok, Err, is_ok}
use Rattle.std.specs.Result.{result_unwrap_or}
use Rattle.sha384.specs.Errors.{error_number, number_of}
use Rattle.sha384.specs.declared.errors.DigestError.{DigestError}
use Rattle.sha384.specs.declared.errors.DigestError.TheVariants.{TooLong}
use Rattle.sha384.specs.Sha384.{bytes_of, first_six, hash_of, sha384}
use Rattle.sha384.specs.Entries.{longest, digest_of, extended, extended_by_each}

pub length_sha384 : (m : List ℕ) → length (sha384 m) ≡ 48
unfolding sha384 first_six
length_sha384 m = refl

pub length_extended : (x d : List ℕ) → length (extended x d) ≡ 48
unfolding extended
length_extended x d = length_sha384 (x ++ d)

-- every element of a list, and what is read past its end, is below 256
abbrev pub Bytes : List ℕ → Type 0
Bytes l = (i : ℕ) → get_or l i 0 < 256

bytes_of_word : (n x : ℕ) → Bytes (bytes_of n x)
bytes_of_word zero x i = omega arith
bytes_of_word (suc n) x zero = omega arith
bytes_of_word (suc n) x (suc i) = bytes_of_word n x i

pub bytes_append : (s t : List ℕ) → Bytes s → Bytes t → Bytes (s ++ t)
bytes_append [] t hs ht i = ht i
bytes_append (a ∷ s) t hs ht zero = hs 0
bytes_append (a ∷ s) t hs ht (suc i) = bytes_append s t (λ j. hs (suc j)) ht i

word_then : (x : ℕ) (t : List ℕ) → Bytes t → Bytes (bytes_of 8 x ++ t)
word_then x t h = bytes_append (bytes_of 8 x) t (bytes_of_word 8 x) h

pub bytes_sha384 : (m : List ℕ) → Bytes (sha384 m)
unfolding sha384 first_six
bytes_sha384 m =
    let h = hash_of m in
    let f = bytes_of 8 h.f in
    let e = bytes_of 8 h.e ++ f in
    let d = bytes_of 8 h.d ++ e in
    let c = bytes_of 8 h.c ++ d in
    let b = bytes_of 8 h.b ++ c in
    word_then h.a b (word_then h.b c (word_then h.c d (word_then h.d e (word_then h.e f (bytes_of_word 8 h.f)))))

pub bytes_extended : (x d : List ℕ) → Bytes (extended x d)
unfolding extended
bytes_extended x d = bytes_sha384 (x ++ d)

-- a measurement: 48 bytes
abbrev pub Measure : List ℕ → Type 0
Measure x = (length x ≡ 48) × Bytes x

pub measure_extended : (x d : List ℕ) → Measure (extended x d)
measure_extended x d = (length_extended x d, bytes_extended x d)

-- x extended by each of a list is one, however long the list and whatever x; only an empty list leaves x as it is
pub measure_each : (x d : List ℕ) (ds : List (List ℕ)) → Measure (extended_by_each x (d ∷ ds))
unfolding extended_by_each
measure_each x d [] = measure_extended x d
measure_each x d (e ∷ ds) = measure_each (extended x d) e ds

-- a message that is not too long gets its digest
pub digest_of_short : (m : List ℕ) → length m ≤ longest → digest_of m ≡ Ok (sha384 m)
unfolding digest_of
digest_of_short m h = rw (le-leb (length m) longest h)

-- a digest is that of a message that is not too long, and a refusal is that of a longer one
pub digest_told : (m x : List ℕ) → Ok x ≡ digest_of m → (length m ≤ longest) × (x ≡ sha384 m)
unfolding digest_of
digest_told m x e = by (leb (length m) longest) refl e
  where
    by : (b : Bool) → leb (length m) longest ≡ b → Ok x ≡ cond {A = Result (List ℕ) DigestError} b (Ok (sha384 m)) (Err TooLong)
        → (length m ≤ longest) × (x ≡ sha384 m)
    by true p h = (leb-true (length m) longest p, ap (λ (r : Result (List ℕ) DigestError). result_unwrap_or r x) h)
    by false p h = absurd (true≢false (ap is_ok h))

pub digest_refused : (m : List ℕ) (e : DigestError) → Err e ≡ digest_of m → (longest < length m) × (error_number e ≡ 10)
unfolding digest_of
digest_refused m e h = by (leb (length m) longest) refl h
  where
    by : (b : Bool) → leb (length m) longest ≡ b → Err e ≡ cond {A = Result (List ℕ) DigestError} b (Ok (sha384 m)) (Err TooLong)
        → (longest < length m) × (error_number e ≡ 10)
    by true p g = absurd (true≢false (sym (ap is_ok g)))
    by false p g = (leb-false (length m) longest p, ap number_of g)
