-- A work as the words of a lent buffer (`work_words`), and the work that any words are (`work_of`). A work that is written is the work that is
-- read again; words that no work wrote have a meaning too. Assumes nothing.
use Rattle.std.specs.Prelude.{ℕ, ◌+◌, ◌*◌, ◌/◌, ◌%◌, ◌<◌, cond, ◌≡◌, List, [], ◌∷◌, ◌++◌, length, get_or}
use Rattle.layout.specs.Sizes.{register_words, node_words, answer_max, input_bytes}
use Rattle.layout.specs.Words.{tab, zeros, byte_of, part, words_at}
use Rattle.table.specs.Coding.{coded_as, coded_of, is_kind, kind_of}
use Rattle.work.specs.declared.Work.{Work}

-- ---- where each field stands

-- words 0 to 8: the kind's number, then the two words, low and high, of its first index, its second index, the position, the answer's length
abbrev pub position_word : ℕ
position_word = 5

abbrev pub register_word : ℕ
register_word = 9

abbrev pub journey_word : ℕ
journey_word = register_word + register_words

abbrev pub node_word : ℕ
node_word = journey_word + register_words

abbrev pub secret_word : ℕ
secret_word = node_word + node_words

abbrev pub answer_word : ℕ
answer_word = secret_word + register_words

-- the answer's bytes, four to a word, the first lowest
abbrev pub answer_words : ℕ
answer_words = answer_max / 4

-- and so the inputs of its journal entry
abbrev pub inputs_word : ℕ
inputs_word = answer_word + answer_words

abbrev pub input_words : ℕ
input_words = input_bytes / 4

abbrev pub work_size : ℕ
work_size = inputs_word + input_words

-- ---- from a work to words

abbrev pub low_of : ℕ → ℕ
low_of n = n % 4294967296

abbrev pub high_of : ℕ → ℕ
high_of n = n / 4294967296

unfoldable pub head_of : Work → List ℕ
head_of w =
    (coded_of w.kind).number
    ∷ low_of (coded_of w.kind).first
    ∷ high_of (coded_of w.kind).first
    ∷ low_of (coded_of w.kind).second
    ∷ high_of (coded_of w.kind).second
    ∷ low_of w.position
    ∷ high_of w.position
    ∷ low_of w.answer_len
    ∷ high_of w.answer_len
    ∷ []

-- the parts one after another
unfoldable pub row_of : (head register journey node secret answer inputs : List ℕ) → List ℕ
row_of head register journey node secret answer inputs =
    head ++ (register ++ (journey ++ (node ++ (secret ++ (words_at answer_words answer 0 ++ words_at input_words inputs 0)))))

-- parts as long as a work's
pub record PartsLong (head register journey node secret : List ℕ) : Type 0 where
  pub head_long : length head ≡ register_word
  pub register_long : length register ≡ register_words
  pub journey_long : length journey ≡ register_words
  pub node_long : length node ≡ node_words
  pub secret_long : length secret ≡ register_words

unfoldable pub work_words : Work → List ℕ
work_words w = row_of (head_of w) w.register w.journey w.node w.secret w.answer w.inputs

-- a list of bytes
abbrev pub AllBytes : List ℕ → Type 0
AllBytes l = (i : ℕ) → get_or l i 0 < 256

-- ---- from words to a work: of any words

abbrev pub joined_of : ℕ → ℕ → ℕ
joined_of low high = low + 4294967296 * high

-- a number of two words
abbrev pub long_at : List ℕ → ℕ → ℕ
long_at l at = joined_of (get_or l at 0) (get_or l (at + 1) 0)

-- a number that is no kind's goes as no stores (`kind_of`) and past the last of them, so that such a work is not well shaped
unfoldable pub position_of : ℕ → ℕ → ℕ
position_of number position = cond (is_kind number) position 1

-- n bytes of the words from an index on
unfoldable pub bytes_at : ℕ → List ℕ → ℕ → List ℕ
bytes_at n l at = tab n (λ k. byte_of (get_or l (at + k / 4) 0) (k % 4))

unfoldable pub work_of : List ℕ → Work
work_of l =
    record {
      kind = kind_of (coded_as (get_or l 0 0) (long_at l 1) (long_at l 3));
      position = position_of (get_or l 0 0) (long_at l 5);
      register = part register_words l register_word;
      journey = part register_words l journey_word;
      node = part node_words l node_word;
      secret = part register_words l secret_word;
      answer = bytes_at answer_max l answer_word;
      answer_len = long_at l 7;
      inputs = bytes_at input_bytes l inputs_word;
    }

-- what an answer's taking asks of a work: of the prepared words the node's alone, and no input
unfoldable pub answering_of : Work → Work
answering_of w =
    record {
      kind = w.kind;
      position = w.position;
      register = zeros register_words;
      journey = zeros register_words;
      node = w.node;
      secret = zeros register_words;
      answer = w.answer;
      answer_len = w.answer_len;
      inputs = zeros input_bytes;
    }
