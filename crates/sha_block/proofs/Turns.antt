-- Rounds in two runs, one after the other. Assumes nothing.
use Rattle.std.proofs.Common.{◌≡◌, ℕ, zero, suc, ◌+◌, ◌<◌, refl, ap, add-zero, add-suc, add-one, arith}
use Rattle.sha_block.specs.Rounds.{round_of, turns}
use Rattle.sha_block.specs.declared.state.State.{State}

-- m rounds and n more
pub turns_add : (k w : ℕ → ℕ) (m n : ℕ) (s : State) → turns k w (m + n) s ≡ turns (λ j. k (m + j)) (λ j. w (m + j)) n (turns k w m s)
turns_add k w m zero s = rw add-zero
turns_add k w m (suc n) s = rw add-suc (ap (λ (x : State). round_of x (k (m + n)) (w (m + n))) (turns_add k w m n s))

-- rounds at equal constants and words
pub turns_same : (k k' w w' : ℕ → ℕ) (n : ℕ) (s : State) → ((j : ℕ) → j < n → k j ≡ k' j) → ((j : ℕ) → j < n → w j ≡ w' j) → turns k w n s ≡ turns k' w' n s
turns_same k k' w w' zero s ek ew = refl
turns_same k k' w w' (suc n) s ek ew =
    let e = turns_same k k' w w' n s (λ j h. ek j (omega arith)) (λ j h. ew j (omega arith)) in
    let x = ek n (omega arith) in
    let y = ew n (omega arith) in
    cc

-- one round more
pub turns_more : (k w : ℕ → ℕ) (h : State) (t x y : ℕ) {s r : State} → s ≡ turns k w t h → x ≡ k t → y ≡ w t → r ≡ round_of s x y → r ≡ turns k w (t + 1) h
turns_more k w h t x y e ex ey er = rw add-one (cc)
