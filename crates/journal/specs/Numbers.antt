-- "Numbers are in groups of seven bits, lowest first, top bit set when another follows, shortest form only, at most 32 bits." Assumes nothing.
use Rattle.std.specs.Prelude.{ℕ, zero, suc, ◌+◌, ◌-◌, ◌*◌, ◌/◌, ◌%◌, Bool, cond, ◌&&◌, List, [], ◌∷◌, leb, ltb}
use Rattle.layout.specs.declared.refusals.Refusal.TheVariants.{BadNumber, CutEntry}
use Rattle.journal.specs.Read.{Read, refused, got, map_read}

-- a number in at most n + 1 groups
unfoldable pub groups : ℕ → ℕ → List ℕ
groups zero x = x ∷ []
groups (suc n) x = cond (ltb x 128) (x ∷ []) ((128 + x % 128) ∷ groups n (x / 128))

-- 32 bits have five groups
abbrev pub number_bytes : ℕ → List ℕ
number_bytes x = groups 4 x

-- a lower group before the value of the later ones
abbrev pub under : ℕ → ℕ → ℕ
under low high = low + 128 * high

-- "top bit set when another follows": this group is the last
abbrev pub is_last : ℕ → Bool
is_last b = ltb b 128

-- "shortest form only": a group after the first holds something, and a byte 0 could stand nowhere there
abbrev pub is_needed : ℕ → Bool
is_needed b = leb 1 b

-- "at most 32 bits": a fifth group holds the top four of them, and no other follows
abbrev pub is_top : ℕ → Bool
is_top b = ltb b 16

-- "21 number too long or too large": a byte that no number could have there
abbrev pub wrong_byte : Read ℕ
wrong_byte = refused BadNumber

-- the groups after the first, where n more may follow this one
unfoldable pub read_later : ℕ → List ℕ → Read ℕ
read_later n [] = refused CutEntry
read_later zero (b ∷ l) = cond (is_needed b && is_top b) (got b l) wrong_byte
read_later (suc n) (b ∷ l) = cond (is_needed b) (cond (is_last b) (got b l) (map_read (under (b - 128)) (read_later n l))) wrong_byte

-- a number: its first byte may be any
unfoldable pub read_number : List ℕ → Read ℕ
read_number [] = refused CutEntry
read_number (b ∷ l) = cond (is_last b) (got b l) (map_read (under (b - 128)) (read_later 3 l))
