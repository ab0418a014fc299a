-- The order of a request's refusals, in the code's parts: the image and the mark, the command, the screen, the command's own rules. Assumes nothing.
use mathlib.Core.Path.{◌≡◌, refl, sym, ap, ◌∙◌}
use mathlib.Core.List.{List}
use mathlib.Core.Bool.{Bool, true, false, cond, not}
use Prim.Native.Nat.{ℕ, ◌≤◌}
use native.Mathlib.Omega.{arith}
use lib.ListN.{length, get_or}
use borrow.Author.Tests.{eqb-true, eq-eqb, leb-true}
use lib.Dec.{leb}
use Rattle.std.specs.Prelude.{⊤, Result, Ok, Err}
use Rattle.layout.specs.Sizes.{image_words, mark_at}
use Rattle.layout.specs.declared.refusals.Refusal.{Refusal}
use Rattle.layout.specs.declared.refusals.Refusal.TheVariants as refusal
use Rattle.layout.proofs.Cases.{and_left}
use Rattle.work.specs.declared.Work.{Work}
use Rattle.opening.specs.Tasks.{Request, Ruling, refused, accepted}
use Rattle.opening.specs.Rules.{wrong_checksum, handoff_ok, Command, command_of, ruled}
use Rattle.opening.specs.Openings.{status_number, opened, opened_of, view_in, open_request}
use Rattle.opening.specs.declared.Opened.{Opened}
use Rattle.request.specs.declared.command.Command as named
use Rattle.request.specs.declared.command.Command.TheVariants.{Stash, Disable, Identity, Verify, Extend, Invoke}
use Rattle.request.specs.Screen.{row_of, screen_of, ruled_work, screened_opened, request_ruled, told}

-- what the screen leaves of an answer
abbrev pub after_screen : Result Work Refusal → Result ⊤ Refusal → Result Work Refusal
after_screen x (Ok u) = x
after_screen x (Err r) = Err r

-- the image and the mark are fine
fine : (image : List ℕ) (a b : Bool) (x : Ruling) → a ≡ true → b ≡ true
    → ruled_work image (cond (not a) (refused refusal.WrongImage) (cond (not b) (refused refusal.Unfinished) x)) ≡ ruled_work image x
fine image a b x h g = rw (h, g)

-- of the right length, of a wrong checksum
in_turn : (image : List ℕ) (s t : Bool) (x : Ruling)
    → ruled_work image (cond (not s) (refused refusal.WrongLength) (cond t (refused refusal.BadChecksum) x))
    ≡ after_screen (ruled_work image x) (cond s (cond t (Err refusal.BadChecksum) (Ok tt)) (Err refusal.WrongLength))
in_turn image true true x = refl
in_turn image true false x = refl
in_turn image false t x = refl

-- an image of the right length and a mark that is 1
module _ (image : List ℕ) (r : Request) (size : length image ≡ image_words) (mark : get_or image mark_at 0 ≡ 1) where
  pub unknown : (command_of r.code).known ≡ false → request_ruled image r ≡ Err refusal.UnknownCode
  unfolding request_ruled view_in
  unknown e = fine image _ _ _ (eq-eqb (length image) image_words size) (eq-eqb (get_or image mark_at 0) 1 mark) ∙ rw e

  -- a known command: the screen, and what follows it
  pub by_screen : (c : Command) (s : Result ⊤ Refusal) → command_of r.code ≡ c → c.known ≡ true → s ≡ screen_of c r.code r.bytes
      → request_ruled image r ≡ after_screen (screened_opened c image r) s
  unfolding request_ruled view_in screened_opened screen_of
  by_screen c s e k h =
      fine image _ _ _ (eq-eqb (length image) image_words size) (eq-eqb (get_or image mark_at 0) 1 mark)
      ∙ rw (e, k) (in_turn image (c.length_ok r.bytes) (wrong_checksum r.code r.bytes) (ruled (c.rules (view_in image) r) c r))
      ∙ ap (after_screen (screened_opened c image r)) (sym h)

-- what the rules gave is the answer, and so its number
pub ruled_answer : (image : List ℕ) (r : Request) (o : Opened ⊤) → o ≡ opened (told (request_ruled image r))
    → (o ≡ open_request image r) × (status_number o.status ≡ status_number (open_request image r).status)
unfolding open_request request_ruled
ruled_answer image r o e = (e ∙ same _, ap (λ (x : Opened ⊤). status_number x.status) (e ∙ same _))
  where
    same : (x : Ruling) → opened (told (ruled_work image x)) ≡ opened_of image x
    same (refused n) = refl
    same (accepted t a) = refl

-- a request that passed the screen is as long as its command's
pub screened_length : (c : Command) (code : ℕ) (bytes : List ℕ) → Ok tt ≡ screen_of c code bytes → c.length_ok bytes ≡ true
unfolding screen_of
screened_length c code bytes h = go (c.length_ok bytes) (wrong_checksum code bytes) h
  where
    go : (s t : Bool) → ◌≡◌ {A = Result ⊤ Refusal} (Ok tt) (cond s (cond t (Err refusal.BadChecksum) (Ok tt)) (Err refusal.WrongLength)) → s ≡ true
    go true t e = refl
    go false t e = absurd cc

-- every command's request has its checksum, and every command is known
pub row_long : (k : named.Command) (b : List ℕ) → (row_of k).length_ok b ≡ true → 4 ≤ length b
row_long Stash b e = omega (arith, eqb-true (length b) 60 e)
row_long Disable b e = omega (arith, eqb-true (length b) 4 e)
row_long Identity b e = omega (arith, eqb-true (length b) 4 e)
row_long Verify b e = omega (arith, eqb-true (length b) 196 e)
row_long Extend b e = omega (arith, eqb-true (length b) 56 e)
row_long Invoke b e = omega (arith, leb-true 8 (length b) (and_left (leb 8 (length b)) _ e))

pub row_known : (k : named.Command) → (row_of k).known ≡ true
row_known Stash = refl
row_known Disable = refl
row_known Identity = refl
row_known Verify = refl
row_known Extend = refl
row_known Invoke = refl

pub handoff_length : (h : List ℕ) → handoff_ok h ≡ true → length h ≡ 2048
unfolding handoff_ok
handoff_length h e = eqb-true (length h) 2048 (and_left _ _ e)
