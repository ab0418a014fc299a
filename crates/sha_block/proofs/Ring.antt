-- The schedule in a ring of sixteen words. Assumes nothing.
use Rattle.std.proofs.Common.{◌≡◌, ℕ, zero, suc, ◌+◌, ◌-◌, ◌%◌, ◌<◌, ◌≤◌, Bool, true, false, eqb, List, [], ◌∷◌, ◌++◌, length, get_or, set, sym, refl, ap, ◌∙◌, ap₂, add-zero, add-suc, arith, length-append, length-set, get_or-set_other, get_or-set_same, eqb-true}
use borrow.Author.Tests.{eqb-false}
use lib.ListN.{get_or-append}
use lib.Seq.{get_or-append_seam}
use Rattle.sha_block.specs.Schedule.{at, next_of, next_word, schedule, ring_next, ring_after, ring_word}
use Rattle.sha_block.specs.Rounds.{round_of, turns}
use Rattle.sha_block.specs.declared.state.State.{State}
use Rattle.sha_block.proofs.Turns.{turns_add, turns_same}

length_schedule : (n : ℕ) (m : List ℕ) → length (schedule n m) ≡ length m + n
length_schedule zero m = omega arith
length_schedule (suc n) m = length-append (schedule n m) (next_word (schedule n m) ∷ []) ∙ omega (arith, length_schedule n m)

-- words that are there stay as the schedule grows
kept : (m : List ℕ) (n d t : ℕ) → t < length m + n → at (schedule (n + d) m) t ≡ at (schedule n m) t
kept m n zero t h = rw add-zero
kept m n (suc d) t h =
    rw add-suc
    (get_or-append (schedule (n + d) m) (next_word (schedule (n + d) m) ∷ []) 0 t (omega (arith, length_schedule (n + d) m)) ∙ kept m n d t h)

prefix : (m : List ℕ) (n l t : ℕ) → n ≤ l → t < length m + n → at (schedule l m) t ≡ at (schedule n m) t
prefix m n l t h lt = let e : l ≡ n + (l - n) = omega arith in ap (λ (x : ℕ). at (schedule x m) t) e ∙ kept m n (l - n) t lt

-- the first sixteen words of the schedule are the block's
pub first_words : (m : List ℕ) (t : ℕ) → length m ≡ 16 → t < 16 → at m t ≡ at (schedule 64 m) t
first_words m t h lt = sym (prefix m 0 64 t (omega arith) (omega arith))

-- each later word is made of four before it
scheduled : (m : List ℕ) (t : ℕ) → length m ≡ 16 → 16 ≤ t → t < 80
    → at (schedule 64 m) t ≡ next_of (at (schedule 64 m) (t - 2)) (at (schedule 64 m) (t - 7)) (at (schedule 64 m) (t - 15)) (at (schedule 64 m) (t - 16))
unfolding next_word
scheduled m t h lo hi =
    let ws = schedule (t - 16) m in
    let n : length ws ≡ t = length_schedule (t - 16) m ∙ omega arith in
    let back : (d : ℕ) → 0 < d → at ws (length ws - d) ≡ at (schedule 64 m) (t - d) =
    λ d p. ap (λ (i : ℕ). at ws (i - d)) n ∙ sym (prefix m (t - 16) 64 (t - d) (omega arith) (omega arith)) in
    let new : at (schedule 64 m) t ≡ next_word ws =
    prefix m (suc (t - 16)) 64 t (omega arith) (omega arith) ∙ ap (λ (i : ℕ). get_or (ws ++ (next_word ws ∷ [])) i 0) (sym n)
    ∙ get_or-append_seam ws (next_word ws) [] 0 in
    let a = back 2 (omega arith) in
    let b = back 7 (omega arith) in
    let c = back 15 (omega arith) in
    let d = back 16 (omega arith) in
    new ∙ cc

-- Before round t the ring w holds the sixteen words before W_t: W_i in place i mod 16.
abbrev pub Ring : List ℕ → ℕ → List ℕ → Type 0
Ring m t w = (i : ℕ) → i < t → t ≤ i + 16 → at w (i % 16) ≡ at (schedule 64 m) i

pub ring_first : (m : List ℕ) → length m ≡ 16 → Ring m 16 m
ring_first m h i lo hi = let e : i % 16 ≡ i = omega arith in ap (at m) e ∙ first_words m i h lo

-- what the place of W_(t-16) takes up is W_t
pub ring_next_law : (m w : List ℕ) (t i : ℕ) → length m ≡ 16 → 16 ≤ t → t < 80 → t % 16 ≡ i → Ring m t w → ring_next w i ≡ at (schedule 64 m) t
unfolding ring_next
ring_next_law m w t i h lo hi e r =
    let place : (d j : ℕ) → 0 < d → d ≤ 16 → j ≡ (t - d) % 16 → at w j ≡ at (schedule 64 m) (t - d) =
    λ d j p q ej. ap (at w) ej ∙ r (t - d) (omega arith) (omega arith) in
    let a = place 2 ((i + 14) % 16) (omega arith) (omega arith) (omega arith) in
    let b = place 7 ((i + 9) % 16) (omega arith) (omega arith) (omega arith) in
    let c = place 15 ((i + 1) % 16) (omega arith) (omega arith) (omega arith) in
    let d = place 16 i (omega arith) (omega arith) (omega arith) in
    let s = scheduled m t h lo hi in
    cc

-- W_t takes the place of W_(t-16)
module _ (m w : List ℕ) (t x i : ℕ) (n : length w ≡ 16) (r : Ring m t w) (e : x ≡ at (schedule 64 m) t) (lo : i < t + 1) (hi : t + 1 ≤ i + 16) where
  placed : (b : Bool) → eqb i t ≡ b → at (set w (t % 16) x) (i % 16) ≡ at (schedule 64 m) i
  placed true q =
      let same : i ≡ t = eqb-true i t q in
      ap (λ (j : ℕ). at (set w (t % 16) x) (j % 16)) same ∙ get_or-set_same w (t % 16) x 0 (omega arith) ∙ e ∙ ap (at (schedule 64 m)) (sym same)
  placed false q =
      let other : i ≡ t → ⊥ = eqb-false i t q in
      let apart : i % 16 ≡ t % 16 → ⊥ = λ z. omega arith in
      get_or-set_other w (t % 16) (i % 16) x 0 apart ∙ r i (omega arith) (omega arith)

pub ring_more : (m w : List ℕ) (t x : ℕ) → length w ≡ 16 → Ring m t w → x ≡ at (schedule 64 m) t → Ring m (t + 1) (set w (t % 16) x)
ring_more m w t x n r e i lo hi = placed m w t x i n r e lo hi (eqb i t) refl

-- Sixteen rounds from t on, t a multiple of 16: after n of them the ring stands before round t + n, and the next word that it takes up is W_(t+n).
module _ (m w : List ℕ) (t : ℕ) (hm : length m ≡ 16) (lo : 16 ≤ t) (hi : t + 16 ≤ 80) (e : t % 16 ≡ 0) (hw : length w ≡ 16) (r : Ring m t w) where
  word_from : (n : ℕ) → n < 16 → Ring m (t + n) (ring_after n w) → ring_word w n ≡ at (schedule 64 m) (t + n)
  word_from n h q = ring_next_law m (ring_after n w) (t + n) n hm (omega arith) (omega arith) (omega arith) q

  after : (n : ℕ) → n ≤ 16 → (length (ring_after n w) ≡ 16) × Ring m (t + n) (ring_after n w)
  after zero h = (hw, rw add-zero r)
  after (suc n) h =
      let q = after n (omega arith) in
      let place : (t + n) % 16 ≡ n = omega arith in
      let more : Ring m (t + n + 1) (set (ring_after n w) n (ring_word w n)) =
      rw place at (ring_more m (ring_after n w) (t + n) (ring_word w n) q.0 q.1 (word_from n (omega arith) q.1)) in
      let count : t + suc n ≡ t + n + 1 = omega arith in
      (length-set (ring_after n w) n (ring_word w n) ∙ q.0, rw count more)

  word : (n : ℕ) → n < 16 → ring_word w n ≡ at (schedule 64 m) (t + n)
  word n h = word_from n h (after n (omega arith)).1

-- Before round t: the ring, and the working variables after the rounds from 16 on that are done.
abbrev pub Held : List ℕ → List ℕ → State → ℕ → List ℕ → State → Type 0
Held k m h t w s = (length w ≡ 16) × Ring m t w × (s ≡ turns (λ j. at k (16 + j)) (λ j. at (schedule 64 m) (16 + j)) (t - 16) h)

-- sixteen rounds more
pub held_more : (k m : List ℕ) (h : State) (t : ℕ) (w w' : List ℕ) (s s' : State) → length m ≡ 16 → 16 ≤ t → t + 16 ≤ 80 → t % 16 ≡ 0 → Held k m h t w s
    → s' ≡ turns (λ j. at k (t + j)) (ring_word w) 16 s → w' ≡ ring_after 16 w → Held k m h (t + 16) w' s'
held_more k m h t w w' s s' hm lo hi e q es ew =
    let K : ℕ → ℕ = λ j. at k (16 + j) in
    let W : ℕ → ℕ = λ j. at (schedule 64 m) (16 + j) in
    let shift : (j : ℕ) → t + j ≡ 16 + ((t - 16) + j) = λ j. omega arith in
    let same : turns (λ j. at k (t + j)) (ring_word w) 16 s ≡ turns (λ j. K ((t - 16) + j)) (λ j. W ((t - 16) + j)) 16 s =
    turns_same (λ j. at k (t + j)) (λ j. K ((t - 16) + j)) (ring_word w) (λ j. W ((t - 16) + j)) 16 s (λ j l. ap (at k) (shift j))
    (λ j l. word m w t hm lo hi e q.0 q.1 j l ∙ ap (at (schedule 64 m)) (shift j)) in
    let count : (t - 16) + 16 ≡ t + 16 - 16 = omega arith in
    let ring = after m w t hm lo hi e q.0 q.1 16 (omega arith) in (
      ap length ew ∙ ring.0,
      rw ew ring.1,
      es ∙ same ∙ ap (turns (λ j. K ((t - 16) + j)) (λ j. W ((t - 16) + j)) 16) q.2 ∙ sym (turns_add K W (t - 16) 16 h)
          ∙ ap (λ (n : ℕ). turns K W n h) count,
    )

-- Within sixteen rounds from t on: the ring and the working variables after n of them.
abbrev pub Turned : List ℕ → ℕ → List ℕ → State → ℕ → List ℕ → State → Type 0
Turned k t w₀ s₀ n w s = (w ≡ ring_after n w₀) × (s ≡ turns (λ j. at k (t + j)) (ring_word w₀) n s₀)

-- one round more
pub turned_more : (k : List ℕ) (t : ℕ) (w₀ : List ℕ) (s₀ : State) (n : ℕ) (w w' : List ℕ) (s s' : State) → Turned k t w₀ s₀ n w s
    → (s' ≡ round_of s (at k (t + n)) (ring_next w n)) × (w' ≡ set w n (ring_next w n)) → Turned k t w₀ s₀ (suc n) w' s'
turned_more k t w₀ s₀ n w w' s s' q e =
    (e.1 ∙ ap (λ (v : List ℕ). set v n (ring_next v n)) q.0, e.0 ∙ ap₂ (λ (v : List ℕ) (x : State). round_of x (at k (t + n)) (ring_next v n)) q.0 q.1)
