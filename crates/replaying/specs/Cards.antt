-- Small journals and figures, worked out by hand (document 02, §3 and §5). Assumes nothing.
use Rattle.std.specs.Prelude.{◌≡◌, ℕ, List, [], ◌∷◌, ◌++◌, replicate}
use Rattle.layout.specs.Words.{zeros}
use Rattle.journal.specs.Entries.{disabling, journal_bytes}
use Rattle.layout.specs.Refusals.{unlisted_kind, bad_number, cut_entry, uncounted}
use Rattle.journal.specs.Journal.{stopped, ended}
use Rattle.replaying.specs.Replay.{fresh, replay}
use Rattle.replaying.specs.Report.{compared_at, image_bytes, journal_max, output}

-- a cold boot's entry, and a handle
abbrev boot : List ℕ
boot = 1 ∷ zeros 96

abbrev ones : List ℕ
ones = replicate 20 1

pub record Cards : Type 0 where
  -- "a journal holding one disabling is the byte `03`"; before a cold boot it is refused
  pub one_disabling : journal_bytes (disabling ∷ []) ≡ 3 ∷ []
  pub before_a_boot : replay (3 ∷ []) ≡ stopped uncounted 0
  -- form first: a cut cold boot, a kind that is not listed, a number with a byte 0 behind the first
  pub cut_boot : replay (1 ∷ zeros 95) ≡ stopped cut_entry 0
  pub unlisted : replay (10 ∷ []) ≡ stopped unlisted_kind 0
  pub none : replay (0 ∷ []) ≡ stopped unlisted_kind 0
  pub long_form : replay (5 ∷ 0x80 ∷ 0 ∷ []) ≡ stopped bad_number 0
  pub register_cut : replay (5 ∷ 3 ∷ zeros 47) ≡ stopped cut_entry 0
  pub register_whole : replay (5 ∷ 3 ∷ zeros 48) ≡ stopped uncounted 0
  -- entry by entry: an offset is that of the entry's first byte
  pub second_entry : replay (boot ++ (4 ∷ 0x80 ∷ [])) ≡ stopped cut_entry 97
  pub second_boot : replay (boot ++ (3 ∷ 2 ∷ zeros 96)) ≡ stopped uncounted 98
  -- after a cold boot: a register outside 4 to 30
  pub register_3 : replay (boot ++ (5 ∷ 3 ∷ zeros 48)) ≡ stopped uncounted 97
  pub register_31 : replay (boot ++ (5 ∷ 31 ∷ zeros 48)) ≡ stopped uncounted 97
  -- kinds 6 to 9 (document 02, §5), form first: a retain in a long form, a cut handle, a cut caller
  pub retain_long : replay (6 ∷ (zeros 20 ++ (0x80 ∷ 0 ∷ []))) ≡ stopped bad_number 0
  pub handle_cut : replay (7 ∷ zeros 19) ≡ stopped cut_entry 0
  pub caller_cut : replay (9 ∷ (zeros 20 ++ (0x80 ∷ []))) ≡ stopped cut_entry 0
  -- and whole before a cold boot
  pub rotate_first : replay (8 ∷ zeros 41) ≡ stopped uncounted 0
  -- "a retain above 1 too", after a cold boot
  pub retain_2 : replay (boot ++ (6 ∷ (zeros 20 ++ (2 ∷ (zeros 49 ++ (ones ++ (0 ∷ []))))))) ≡ stopped uncounted 97
  -- a rotate of the root counts; then no node has the default handle, for another rotate or for a stash
  pub rotate_again : replay (boot ++ (8 ∷ (zeros 20 ++ (ones ++ (0 ∷ 8 ∷ zeros 41))))) ≡ stopped uncounted 139
  pub stash_after : replay (boot ++ (8 ∷ (zeros 20 ++ (ones ++ (0 ∷ 4 ∷ zeros 51))))) ≡ stopped uncounted 139
  -- a child below the root counts, and so does its destroy; then no node has its handle
  pub destroy_again : replay (boot ++ (6 ∷ (zeros 20 ++ (1 ∷ (zeros 49 ++ (ones ++ (0 ∷ 9 ∷ (ones ++ (0 ∷ 9 ∷ (ones ++ (0 ∷ []))))))))))) ≡ stopped uncounted 211
  pub nothing : replay [] ≡ ended fresh
  -- an image that is cut short: number 1, offset 0
  pub cut_image : output [] ≡ 1 ∷ zeros 11
  -- the saved image's bytes; PCR2's first word
  pub image_bytes_law : image_bytes ≡ 6080
  pub compared_from : compared_at ≡ 40
  pub journal_max_law : journal_max ≡ 4294967296
