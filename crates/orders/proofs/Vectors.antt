-- Worked values of the data: what is malformed beside what is not. Assumes nothing.
use mathlib.Core.Path.{◌≡◌, refl}
use mathlib.Core.List.{[], ◌∷◌, ◌++◌}
use lib.ListN.{replicate}
use Rattle.journal.specs.Numbers.{read_later, read_number}
use Rattle.journal.specs.Fields.{read_fields}
use Rattle.opening.specs.Orders.{derive, rotate, malformed, command_in}

no_data : command_in [] ≡ malformed
unfolding command_in
no_data = refl

fifth_command : command_in (5 ∷ replicate 20 1) ≡ malformed
unfolding command_in
fifth_command = refl

whole_rotate : command_in (3 ∷ replicate 20 1) ≡ rotate (replicate 20 1)
unfolding command_in read_fields
whole_rotate = refl

cut_handle : command_in (3 ∷ replicate 19 1) ≡ malformed
unfolding command_in read_fields
cut_handle = refl

byte_left_over : command_in (3 ∷ replicate 21 1) ≡ malformed
unfolding command_in read_fields
byte_left_over = refl

-- a retain above 1 is left to the rules
retain_two : command_in (1 ∷ (replicate 20 1 ++ 2 ∷ 0xAC ∷ 0x02 ∷ replicate 48 4)) ≡ derive (replicate 20 1) 2 300 (replicate 48 4)
unfolding command_in read_fields read_number read_later
retain_two = refl

retain_not_shortest : command_in (1 ∷ (replicate 20 1 ++ 0x81 ∷ 0x00 ∷ 0xAC ∷ 0x02 ∷ replicate 48 4)) ≡ malformed
unfolding command_in read_fields read_number read_later
retain_not_shortest = refl
