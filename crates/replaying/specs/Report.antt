-- The program `replay` (document 02, §3, its last sentences): what it writes for the bytes of standard input. Assumes nothing.
use Rattle.std.specs.Prelude.{ℕ, ◌+◌, ◌-◌, ◌*◌, ◌^◌, Bool, cond, List, [], ◌∷◌, ◌++◌, eqb, ltb, length, get_or, take, drop}
use Rattle.layout.specs.Sizes.{image_words, registers_at, register_words, current_register}
use Rattle.layout.specs.Words.{bytes4, bytes8, words_at, flat}
use Rattle.layout.specs.Below.{all_below}
use Rattle.layout.specs.declared.refusals.Refusal.TheVariants.{WrongImage}
use Rattle.history.specs.Ledger.{Chain, register_rows, node_rows}
use Rattle.layout.specs.Numbers.{refusal_number}
use Rattle.journal.specs.Journal.{Walked, stopped, ended}
use Rattle.replaying.specs.Replay.{Replay, replay}

-- "replayed PCR2 to PCR31 or nodes": the words compared, in the image and of the chain. Nodes stand behind registers, and PCR0 and PCR1 are left out
abbrev pub compared_at : ℕ
compared_at = registers_at + register_words * current_register

abbrev pub compared_rows : Chain → List ℕ
compared_rows x = drop (register_words * current_register) (register_rows x ++ node_rows x)

unfoldable pub alike : List ℕ → Chain → Bool
alike image x = all_below (image_words - compared_at) (λ k. eqb (get_or image (compared_at + k) 0) (get_or (compared_rows x) k 0))

-- the replayed PCR2 to PCR31
abbrev pub registers_told : Chain → List ℕ
registers_told x = flat (drop current_register x.registers)

-- "one byte: 0 no cold boot, 1 a disabling after the last, 2 .., 3 alike; after 2 or 3 also those registers"
unfoldable pub verdict : List ℕ → Replay → List ℕ
verdict image x =
    cond x.booted
    (cond x.off (1 ∷ []) (cond (alike image x.contents.chain) 3 2 ∷ registers_told x.contents.chain))
    (0 ∷ [])

-- "It writes number (4 bytes, 0 if none) and offset (8, or 0), little endian; unless refused, one byte .."
abbrev pub report : List ℕ → Walked Replay → List ℕ
report image (stopped n at) = bytes4 (refusal_number n) ++ bytes8 at
report image (ended x) = bytes4 0 ++ (bytes8 0 ++ verdict image x)

-- the bytes of an image
abbrev pub image_bytes : ℕ
image_bytes = 4 * image_words

-- "its first 2^32 bytes"
abbrev pub journal_max : ℕ
journal_max = 2 ^ 32

-- "a saved image (words little endian; cut short gives 1), then the journal (its first 2^32 bytes), from standard input"
unfoldable pub output : List ℕ → List ℕ
output input =
    cond (ltb (length input) image_bytes)
    (bytes4 (refusal_number WrongImage) ++ bytes8 0)
    (report (words_at image_words input 0) (replay (take journal_max (drop image_bytes input))))
