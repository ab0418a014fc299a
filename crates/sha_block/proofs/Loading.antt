-- The words of a block, and the rounds that take them up one by one. Assumes nothing.
use Rattle.std.proofs.Common.{◌≡◌, ℕ, zero, suc, ◌+◌, ◌*◌, ◌<◌, Bool, true, false, eqb, List, [], ◌∷◌, ◌++◌, length, get_or, take, set, sym, refl, ap, ◌∙◌, arith, length-append, length-set, take_all, take-suc-set, eqb-true}
use borrow.Author.Tests.{eqb-false}
use lib.ListN.{get_or-append}
use lib.Seq.{get_or-append_seam}
use Rattle.sha_block.specs.Rounds.{round_of, turns}
use Rattle.sha_block.specs.Schedule.{at, schedule}
use Rattle.sha_block.specs.Blocks.{word_at, block_words}
use Rattle.sha_block.specs.declared.state.State.{State}
use Rattle.sha_block.proofs.Ring.{first_words}
use Rattle.sha_block.proofs.Turns.{turns_same}

pub length_words : (s : List ℕ) (at n : ℕ) → length (block_words s at n) ≡ n
length_words s at zero = refl
length_words s at (suc n) = length-append (block_words s at n) (word_at s (at + n * 8) ∷ []) ∙ omega (arith, length_words s at n)

-- the word i of the n words
module _ (s : List ℕ) (at i : ℕ) where
  last : (n : ℕ) (b : Bool) → eqb i n ≡ b → i < suc n → (i < n → get_or (block_words s at n) i 0 ≡ word_at s (at + i * 8))
      → get_or (block_words s at (suc n)) i 0 ≡ word_at s (at + i * 8)
  last n true q h r =
      let e : i ≡ n = eqb-true i n q in
      let l : i ≡ length (block_words s at n) = e ∙ sym (length_words s at n) in
      ap (λ (x : ℕ). get_or (block_words s at (suc n)) x 0) l ∙ get_or-append_seam (block_words s at n) (word_at s (at + n * 8)) [] 0
      ∙ ap (λ (x : ℕ). word_at s (at + x * 8)) (sym e)
  last n false q h r =
      let other : i ≡ n → ⊥ = eqb-false i n q in
      let lt : i < n = omega arith in
      get_or-append (block_words s at n) (word_at s (at + n * 8) ∷ []) 0 i (omega (arith, length_words s at n)) ∙ r lt

  word_of : (n : ℕ) → i < n → get_or (block_words s at n) i 0 ≡ word_at s (at + i * 8)
  word_of zero h = let e : ⊥ = omega arith in absurd e
  word_of (suc n) h = last n (eqb i n) refl h (word_of n)

-- the word i of the block that starts at the byte `at`, as the schedule has it
pub block_word : (s : List ℕ) (at i : ℕ) → i < 16 → word_at s (at + i * 8) ≡ get_or (schedule 64 (block_words s at 16)) i 0
block_word s at i h = sym (word_of s at i 16 h) ∙ first_words (block_words s at 16) i (length_words s at 16) h

-- After round n - 1 of the block of p that starts at the byte f: the ring holds the block's first n words, and s is what n rounds made of h.
pub record Filled (k p : List ℕ) (f : ℕ) (h : State) (n : ℕ) (w : List ℕ) (s : State) : Type 0 where
  pub long : length w ≡ 16
  pub words : take n w ≡ block_words p f n
  pub rounds : s ≡ turns (at k) (λ j. word_at p (f + j * 8)) n h

pub filled_none : (k p : List ℕ) (f : ℕ) (h : State) (w : List ℕ) → length w ≡ 16 → Filled k p f h 0 w h
filled_none k p f h w l = record { long = l; words = refl; rounds = refl }

-- one round more
pub filled_more : (k p : List ℕ) (f : ℕ) (h : State) (n : ℕ) (w w' : List ℕ) (s s' : State) → n < 16 → Filled k p f h n w s
    → (s' ≡ round_of s (at k n) (word_at p (f + n * 8))) × (w' ≡ set w n (word_at p (f + n * 8))) → Filled k p f h (suc n) w' s'
filled_more k p f h n w w' s s' lt q e =
    let x = word_at p (f + n * 8) in
    let long = q.long in
    record {
      long = ap length e.1 ∙ length-set w n x ∙ long;
      words = ap (take (suc n)) e.1 ∙ take-suc-set w n x (omega arith) ∙ ap (λ (l : List ℕ). l ++ (x ∷ [])) q.words;
      rounds = e.0 ∙ ap (λ (y : State). round_of y (at k n) x) q.rounds;
    }

-- all sixteen rounds
pub filled_all : (k p : List ℕ) (f : ℕ) (h : State) (w : List ℕ) (s : State) → Filled k p f h 16 w s
    → (s ≡ turns (at k) (at (schedule 64 (block_words p f 16))) 16 h) × (w ≡ block_words p f 16)
filled_all k p f h w s q =
    let same = turns_same (at k) (at k) (λ j. word_at p (f + j * 8)) (at (schedule 64 (block_words p f 16))) 16 h (λ j l. refl) (block_word p f) in
    let long = q.long in
    (q.rounds ∙ same, sym (take_all 16 w (omega arith)) ∙ q.words)
