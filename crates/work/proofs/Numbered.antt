-- One store by what it gives: what `Ok` says of work and image (`allowed`), and the work, the number and the image after a store that is made
-- and after one that is refused. Assumes nothing.
use mathlib.Core.Path.{◌≡◌, refl, sym, ap, ◌∙◌}
use mathlib.Core.Bool.{Bool, true, false, cond, true≢false}
use mathlib.Core.List.{List}
use Prim.Native.Nat.{ℕ, ◌<◌}
use native.Mathlib.Omega.{arith}
use borrow.Author.Tests.{eqb-true, ltb-true, eq-eqb}
use lib.Dec.{eqb, ltb}
use lib.ListN.{length, set}
use Rattle.std.specs.Result.{result_and}
use Rattle.std.proofs.Common.{Result, Ok, Err}
use Rattle.layout.specs.Sizes.{image_words}
use Rattle.layout.specs.Numbers.{told_number, refusal_number}
use Rattle.layout.specs.declared.refusals.Refusal.{Refusal}
use Rattle.layout.specs.declared.refusals.Refusal.TheVariants.{WrongImage, NoStoreLeft}
use Rattle.layout.proofs.Told.{refused_ne}
use Rattle.work.specs.Entries.{Stored, put_of, left_of, moved, store_given, store_number, store_result, store_image}
use Rattle.work.specs.declared.Work.{Work}

-- what a store that is made knows: the image's size, and that a store is left
pub record Allowed (w : Work) (image : List ℕ) : Type 0 where
  pub size : length image ≡ image_words
  pub some : 0 < left_of w

abbrev given_by : Bool → Bool → Result (Unit {0}) Refusal
given_by a b = cond a (cond b (Ok tt) (Err NoStoreLeft)) (Err WrongImage)

allowed_by : (w : Work) (image : List ℕ) (a b : Bool) → eqb (length image) image_words ≡ a → ltb 0 (left_of w) ≡ b → told_number (given_by a b) ≡ 0
    → Allowed w image
allowed_by w image true true ea eb h = record { size = eqb-true (length image) image_words ea; some = ltb-true 0 (left_of w) eb }
allowed_by w image true false ea eb h = let z : ⊥ = omega (arith, h) in absurd z
allowed_by w image false b ea eb h = let z : ⊥ = omega (arith, h) in absurd z

pub allowed : (w : Work) (image : List ℕ) → store_number w image ≡ 0 → Allowed w image
unfolding store_number store_given
allowed w image h = allowed_by w image (eqb (length image) image_words) (ltb 0 (left_of w)) refl refl h

-- what a store hands back, from its parts
abbrev numbered : ℕ → Work → Stored
numbered n w = record { number = n; work = w }

-- ---- a store that is made

module _ (w : Work) (image : List ℕ) {u : Unit {0}} (h : store_given w image ≡ Ok u) where
  pub made_number : store_number w image ≡ 0
  unfolding store_number
  made_number = ap told_number h

  pub made_allowed : Allowed w image
  made_allowed = allowed w image made_number

  pub made_handed : result_and (store_given w image) (Ok (moved w)) ≡ Ok (moved w)
  made_handed = rw h

  pub made_work : (store_result w image).work ≡ moved w
  unfolding store_result
  made_work = rw (eq-eqb (store_number w image) 0 made_number)

  pub made_result : store_result w image ≡ record { number = 0; work = moved w }
  unfolding store_result
  made_result = rw (eq-eqb (store_number w image) 0 made_number)

  pub made_image : store_image w image ≡ set image (put_of w).address (put_of w).value
  unfolding store_image
  made_image = rw (eq-eqb (store_number w image) 0 made_number)

-- ---- a store that is refused

module _ (w : Work) (image : List ℕ) {r : Refusal} (h : store_given w image ≡ Err r) where
  pub refused_number : store_number w image ≡ refusal_number r
  unfolding store_number
  refused_number = ap told_number h

  pub refused_fails : eqb (store_number w image) 0 ≡ false
  refused_fails = ap (λ (n : ℕ). eqb n 0) refused_number ∙ refused_ne r

  pub refused_handed : result_and (store_given w image) (Ok (moved w)) ≡ Err r
  refused_handed = rw h

  pub refused_work : (store_result w image).work ≡ w
  unfolding store_result
  refused_work = rw refused_fails

  pub refused_result : store_result w image ≡ record { number = refusal_number r; work = w }
  unfolding store_result
  refused_result = rw refused_fails (ap (λ (n : ℕ). numbered n w) refused_number)

  pub refused_image : store_image w image ≡ image
  unfolding store_image
  refused_image = rw refused_fails

-- ---- the same by the work that is handed back

abbrev work_in : Work → Result Work Refusal → Work
work_in w (Ok v) = v
work_in w (Err r) = w

-- a refusal's number is not that of success
not_success : (r : Refusal) → refusal_number r ≡ 0 → ⊥
not_success r e = true≢false (sym (ap (λ (n : ℕ). eqb n 0) e) ∙ refused_ne r)

handed_by : (w v : Work) (g : Result (Unit {0}) Refusal) → result_and g (Ok (moved w)) ≡ Ok v
    → cond (eqb (told_number g) 0) (numbered 0 (moved w)) (numbered (told_number g) w) ≡ numbered 0 v
handed_by w v (Ok u) h = ap (λ (x : Result Work Refusal). numbered 0 (work_in w x)) h
handed_by w v (Err r) h = absurd (not_success r (ap told_number h))

kept_by : (w : Work) (e : Refusal) (g : Result (Unit {0}) Refusal) → result_and g (Ok (moved w)) ≡ Err e
    → cond (eqb (told_number g) 0) (numbered 0 (moved w)) (numbered (told_number g) w) ≡ numbered (refusal_number e) w
kept_by w e (Ok u) h = absurd (not_success e (sym (ap told_number h)))
kept_by w e (Err r) h = rw (refused_ne r) (ap (λ (n : ℕ). numbered n w) (ap told_number h))

pub handed_result : (w : Work) (image : List ℕ) {v : Work} → result_and (store_given w image) (Ok (moved w)) ≡ Ok v → store_result w image ≡ record { number = 0; work = v }
unfolding store_result store_number
handed_result w image {v} h = handed_by w v (store_given w image) h

pub kept_result : (w : Work) (image : List ℕ) {e : Refusal} → result_and (store_given w image) (Ok (moved w)) ≡ Err e
    → store_result w image ≡ record { number = refusal_number e; work = w }
unfolding store_result store_number
kept_result w image {e} h = kept_by w e (store_given w image) h
