-- The verdict that the scratch image tells is the replay's. Assumes nothing.
use mathlib.Core.Path.{◌≡◌, refl, sym, ap, ap₂, ◌∙◌}
use Prim.Native.Nat.{ℕ, zero, suc, ◌+◌, ◌-◌, ◌*◌, ◌/◌, ◌%◌, ◌<◌}
use native.Mathlib.Omega.{arith}
use mathlib.Core.Bool.{Bool, true, false, cond, ◌&&◌}
use mathlib.Core.List.{List, [], ◌∷◌, ◌++◌, append-nil}
use lib.Dec.{eqb}
use lib.ListN.{length, get_or, take, drop, length-drop}
use lib.Seq.{get_or-take, get_or-drop}
use Rattle.layout.specs.Sizes.{image_words, register_words, register_count, registers_at, register_at, current_register, mark_at}
use Rattle.layout.specs.Words.{flat, le32, byte_of, words48, words_at, bytes_in, part}
use Rattle.layout.specs.Below.{all_below}
use Rattle.layout.proofs.Tab.{get_d_zeros, tab_is}
use Rattle.layout.proofs.Packing.{get_d_words, get_d_bytes, get_d_part, bytes_words}
use Rattle.layout.proofs.Blocks.{Sized, length_flat, get_d_flat}
use Rattle.history.specs.Ledger.{Contents, register_rows, node_rows, state_of, image_of, any, disables}
use Rattle.history.proofs.Encoded.{mark_read, attestation_read, register_words_law}
use Rattle.history.proofs.Good.{Good}
use Rattle.history.proofs.Runs.{counted}
use Rattle.history.proofs.Stores.{registers_part, nodes_part}
use Rattle.history.proofs.Ground.{attestation_word}
use Rattle.replaying.specs.Replay.{Replay}
use Rattle.replaying.specs.Report.{image_bytes, compared_at, alike, registers_told, verdict}
use Rattle.replaying.proofs.Inspected.{image_rows, compared_word}
use Rattle.recount.proofs.Shown.{shown, Reach, unbooted, booted}
use Rattle.inspection.specs.Stages.{Stage, same_from, told_words, verdict_at}

-- two tests that agree below n
all_same : (n : ℕ) (p q : ℕ → Bool) → ((k : ℕ) → k < n → p k ≡ q k) → all_below n p ≡ all_below n q
unfolding all_below
all_same zero p q h = refl
all_same (suc n) p q h = ap₂ (λ (a b : Bool). a && b) (all_same n p q (λ k l. h k (omega arith))) (h n (omega arith))

module _ (mk at : ℕ) (x : Contents) (g : Good x.chain) where
  abbrev image : List ℕ
  image = image_of mk at x

  -- ---- the comparison

  rows : drop registers_at (image_of mk at x) ≡ register_rows x.chain ++ node_rows x.chain
  rows = image_rows (image_of mk at x) x.chain (registers_part mk at x (counted x.chain g)) (nodes_part mk at x (counted x.chain g))

  -- a word of the saved image
  saved_word : (input : List ℕ) (i : ℕ) → i < image_words → le32 (take image_bytes input) (4 * i) ≡ get_or (words_at image_words input 0) i 0
  saved_word input i l =
      (λ j.
      get_or-take image_bytes input (4 * i) 0 (omega arith) j
      + 256 * get_or-take image_bytes input (4 * i + 1) 0 (omega arith) j
      + 65536 * get_or-take image_bytes input (4 * i + 2) 0 (omega arith) j
      + 16777216 * get_or-take image_bytes input (4 * i + 3) 0 (omega arith) j)
      ∙ ap (le32 input) (omega arith)
      ∙ sym (get_d_words image_words input 0 i l)

  same_alike : (input : List ℕ) → same_from (take image_bytes input) (image_of mk at x) ≡ alike (words_at image_words input 0) x.chain
  unfolding same_from alike
  same_alike input =
      all_same (image_words - compared_at) _ _
      (λ k l. ap₂ eqb (saved_word input (compared_at + k) (omega arith)) (compared_word (image_of mk at x) x.chain k rows))

  -- ---- the registers

  abbrev told_registers : List (List ℕ)
  told_registers = drop current_register x.chain.registers

  sized_from : (rs : List (List ℕ)) → ((i : ℕ) → i < length rs → length (get_or rs i []) ≡ 48) → Sized 48 rs
  sized_from [] h = tt
  sized_from (r ∷ rs) h = (h 0 (omega arith), sized_from rs (λ i l. h (suc i) (omega arith)))

  count_told : length told_registers ≡ register_count - current_register
  count_told = length-drop current_register x.chain.registers ∙ ap (λ (n : ℕ). n - current_register) g.shape.registers

  sized_told : Sized 48 told_registers
  sized_told =
      sized_from told_registers
      (λ i l. ap length (get_or-drop current_register x.chain.registers i []) ∙ g.shape.long (current_register + i) (omega (arith, count_told)))

  -- byte o of register q
  register_byte : (q o : ℕ) → q < register_count → o < 48
      → byte_of (get_or (image_of mk at x) (register_at q + o / 4) 0) (o % 4) ≡ get_or (get_or x.chain.registers q []) o 0
  register_byte q o l h =
      let r = get_or x.chain.registers q [] in
      ap (λ (w : ℕ). byte_of w (o % 4))
      (sym (get_d_part register_words (image_of mk at x) (register_at q) (o / 4) (omega arith))
      ∙ ap (λ (ws : List ℕ). get_or ws (o / 4) 0) (register_words_law mk at x g.shape q l))
      ∙ sym (get_d_bytes 48 (words48 r) o h)
      ∙ ap (λ (b : List ℕ). get_or b o 0) (bytes_words register_words r (g.shape.long q l) (g.shape.bytes q l))

  told_byte : (i : ℕ) → i < 4 * told_words
      → byte_of (get_or (part told_words (image_of mk at x) compared_at) (i / 4) 0) (i % 4) ≡ get_or (registers_told x.chain) i 0
  told_byte i l =
      let q = i / 48 in
      let o = i % 48 in
      let few : q < register_count - current_register = omega arith in
      let word : compared_at + i / 4 ≡ register_at (current_register + q) + o / 4 = omega arith in
      let byte : i % 4 ≡ o % 4 = omega arith in
      let here : 48 * q + o ≡ i = omega arith in
      ap (λ (w : ℕ). byte_of w (i % 4)) (get_d_part told_words (image_of mk at x) compared_at (i / 4) (omega arith))
      ∙ ap₂ (λ (a b : ℕ). byte_of (get_or (image_of mk at x) a 0) b) word byte
      ∙ register_byte (current_register + q) o (omega arith) (omega arith)
      ∙ ap (λ (r : List ℕ). get_or r o 0) (sym (get_or-drop current_register x.chain.registers q []))
      ∙ sym (get_d_flat 48 told_registers [] q o sized_told (omega (arith, count_told)) (omega arith))
      ∙ ap₂ (λ (a : List ℕ) (n : ℕ). get_or a n 0) (append-nil (flat told_registers)) here

  registers_told_law : bytes_in (4 * told_words) (part told_words (image_of mk at x) compared_at) ≡ registers_told x.chain
  unfolding bytes_in
  registers_told_law =
      tab_is (λ k. byte_of (get_or (part told_words (image_of mk at x) compared_at) (k / 4) 0) (k % 4)) (registers_told x.chain) (4 * told_words)
      (length_flat 48 told_registers sized_told ∙ ap (λ (n : ℕ). 48 * n) count_told)
      told_byte

-- ---- the verdict

attestation_same : (off : Bool) (a b : List ℕ) → cond (eqb (attestation_word off) 1) a b ≡ cond off b a
attestation_same true a b = refl
attestation_same false a b = refl

on_image : (x : Stage) (off : Bool) (c : Contents) (g : Good c.chain) (input : List ℕ) → x.scratch ≡ image_of 1 (attestation_word off) c
    → x.saved ≡ take image_bytes input → verdict_at x ≡ verdict (words_at image_words input 0) (record { booted = true; off = off; contents = c })
unfolding verdict_at verdict
on_image x off c g input q s =
    let a = attestation_word off in
    rw (q, s, mark_read 1 a c, attestation_read 1 a c)
    (attestation_same off _ (1 ∷ [])
    ∙ (λ i. cond off (1 ∷ []) (cond (same_alike 1 a c g input i) 3 2 ∷ registers_told_law 1 a c g i)))

pub verdict_same : (x : Stage) (y : Replay) (input : List ℕ) → Reach y → x.scratch ≡ shown y → x.saved ≡ take image_bytes input
    → verdict_at x ≡ verdict (words_at image_words input 0) y
unfolding verdict_at verdict
verdict_same x y input (unbooted e) q s =
    rw (q, ap shown e, get_d_zeros image_words mark_at (omega arith)) (sym (ap (λ (z : Replay). verdict (words_at image_words input 0) z) e))
verdict_same x y input (booted h g o e) q s =
    on_image x (any disables h) (state_of h) g input (q ∙ ap shown e) s ∙ ap (verdict (words_at image_words input 0)) (sym e)
