-- Byte strings as words, four bytes to a word, the first byte lowest (document 01, "What the unit holds"), and little-endian numbers. Assumes nothing.
use Rattle.std.specs.Prelude.{ℕ, zero, suc, ◌+◌, ◌*◌, ◌/◌, ◌%◌, ◌^◌, List, [], ◌∷◌, ◌++◌, get_or, replicate}
use Rattle.layout.specs.Sizes.{register_words}

-- f 0, f 1, .., n of them
unfoldable pub tab : ℕ → (ℕ → ℕ) → List ℕ
tab zero f = []
tab (suc n) f = tab n f ++ (f n ∷ [])

unfoldable pub zeros : ℕ → List ℕ
zeros n = replicate n 0

-- "All numbers in it are little endian": the two and the four bytes at an index
abbrev pub le16 : List ℕ → ℕ → ℕ
le16 l at = get_or l at 0 + 256 * get_or l (at + 1) 0

abbrev pub le32 : List ℕ → ℕ → ℕ
le32 l at = get_or l at 0 + 256 * get_or l (at + 1) 0 + 65536 * get_or l (at + 2) 0 + 16777216 * get_or l (at + 3) 0

-- and the eight bytes
abbrev pub le64 : List ℕ → ℕ → ℕ
le64 l at = le32 l at + 4294967296 * le32 l (at + 4)

-- byte j of a word, the lowest first
abbrev pub byte_of : ℕ → ℕ → ℕ
byte_of w j = w / 256 ^ j % 256

-- the four bytes of a number
abbrev pub bytes4 : ℕ → List ℕ
bytes4 w = byte_of w 0 ∷ byte_of w 1 ∷ byte_of w 2 ∷ byte_of w 3 ∷ []

-- the eight bytes of a number
abbrev pub bytes8 : ℕ → List ℕ
bytes8 w = byte_of w 0 ∷ byte_of w 1 ∷ byte_of w 2 ∷ byte_of w 3 ∷ byte_of w 4 ∷ byte_of w 5 ∷ byte_of w 6 ∷ byte_of w 7 ∷ []

-- "packed four to a word, first byte lowest": n words of the bytes from an index on
unfoldable pub words_at : ℕ → List ℕ → ℕ → List ℕ
words_at n l at = tab n (λ k. le32 l (at + 4 * k))

-- the words of 48 bytes
abbrev pub words48 : List ℕ → List ℕ
words48 b = words_at register_words b 0

-- the other way: n bytes of words
unfoldable pub bytes_in : ℕ → List ℕ → List ℕ
bytes_in n ws = tab n (λ k. byte_of (get_or ws (k / 4) 0) (k % 4))

-- the 48 bytes of twelve words
abbrev pub bytes48 : List ℕ → List ℕ
bytes48 ws = bytes_in (4 * register_words) ws

-- n words of a list of words, from an index on
unfoldable pub part : ℕ → List ℕ → ℕ → List ℕ
part n l at = tab n (λ k. get_or l (at + k) 0)

-- lists one after another
abbrev pub flat : List (List ℕ) → List ℕ
flat [] = []
flat (b ∷ bs) = b ++ flat bs
