-- Worked values: document 02's two examples, and where reading stops. Assumes nothing.
use mathlib.Core.Path.{◌≡◌, refl}
use mathlib.Core.List.{[], ◌∷◌, ◌++◌}
use lib.ListN.{length, replicate}
use Rattle.layout.specs.Refusals.{unlisted_kind, bad_number, cut_entry}
use Rattle.journal.specs.Read.{refused, got}
use Rattle.journal.specs.Numbers.{groups, number_bytes, read_later, read_number}
use Rattle.journal.specs.Fields.{read_fields}
use Rattle.journal.specs.Entries.{cold_boot, disabling, derive, entry_bytes, longest, journal_bytes, read_entry}
use Rattle.journal.specs.Journal.{stopped, walk_for, walk, read_journal}

-- "The caller 300 is `Ac 02`"
caller_300 : number_bytes 300 ≡ 0xAC ∷ 0x02 ∷ []
unfolding groups
caller_300 = refl

-- "a journal holding one disabling is the byte `03`"
one_disabling : journal_bytes (disabling ∷ []) ≡ 3 ∷ []
unfolding entry_bytes
one_disabling = refl

longest_number : read_number (0xFF ∷ 0xFF ∷ 0xFF ∷ 0xFF ∷ 0x0F ∷ []) ≡ got 0xFFFFFFFF []
unfolding read_number read_later
longest_number = refl

not_shortest : read_number (0x80 ∷ 0x00 ∷ []) ≡ refused bad_number
unfolding read_number read_later
not_shortest = refl

no_end : read_number (0x80 ∷ []) ≡ refused cut_entry
unfolding read_number read_later
no_end = refl

too_large : read_number (0xFF ∷ 0xFF ∷ 0xFF ∷ 0xFF ∷ 0x10 ∷ []) ≡ refused bad_number
unfolding read_number read_later
too_large = refl

too_long : read_number (0xFF ∷ 0xFF ∷ 0xFF ∷ 0xFF ∷ 0x80 ∷ []) ≡ refused bad_number
unfolding read_number read_later
too_long = refl

four_and_no_end : read_number (0xFF ∷ 0xFF ∷ 0xFF ∷ 0xFF ∷ []) ≡ refused cut_entry
unfolding read_number read_later
four_and_no_end = refl

-- "Digests are 48 plain bytes.": a boot has 97 bytes, and one fewer is cut
whole_boot : read_entry (1 ∷ replicate 96 7) ≡ got (cold_boot (replicate 48 7) (replicate 48 7)) []
unfolding read_entry read_fields
whole_boot = refl

cut_boot : read_entry (2 ∷ replicate 95 7) ≡ refused cut_entry
unfolding read_entry read_fields
cut_boot = refl

-- the bad byte decides, though the entry is cut too; the offset is the entry's
bad_number_in_a_cut_stash : read_journal (3 ∷ 4 ∷ 0x80 ∷ 0x00 ∷ []) ≡ stopped bad_number 1
unfolding walk walk_for read_entry read_fields read_number read_later
bad_number_in_a_cut_stash = refl

-- kinds 6 to 9 (§5): a retain above 1 is a fault of no form, one that is not in shortest form is
whole_derive : read_entry (6 ∷ (replicate 20 1 ++ 2 ∷ 3 ∷ (replicate 48 4 ++ (replicate 20 5 ++ 0xAC ∷ 0x02 ∷ []))))
    ≡ got (derive (replicate 20 1) 2 3 (replicate 48 4) (replicate 20 5) 300) []
unfolding read_entry read_fields read_number read_later
whole_derive = refl

retain_not_shortest : read_entry (6 ∷ (replicate 20 1 ++ 0x81 ∷ 0x00 ∷ [])) ≡ refused bad_number
unfolding read_entry read_fields read_number read_later
retain_not_shortest = refl

-- a handle of 19 bytes is cut
cut_destroy : read_entry (9 ∷ replicate 19 7) ≡ refused cut_entry
unfolding read_entry read_fields
cut_destroy = refl

longest_derive : length (entry_bytes (derive (replicate 20 1) 0xFFFFFFFF 0xFFFFFFFF (replicate 48 4) (replicate 20 5) 0xFFFFFFFF)) ≡ longest
unfolding entry_bytes groups
longest_derive = refl

kind_ten : read_journal (3 ∷ 3 ∷ 10 ∷ []) ≡ stopped unlisted_kind 2
unfolding walk walk_for read_entry read_fields
kind_ten = refl
