-- The words of a work by their place. From a place on, a row is what stands there (`From`): a part and what follows it; behind the part it is
-- what follows (`next`), and up to there the part (`here`, `part_here`). A buffer that was filled with a row's words is the row. Assumes nothing.
use mathlib.Core.Path.{◌≡◌, refl, sym, ap, ◌∙◌}
use mathlib.Core.List.{List, ◌++◌}
use Prim.Native.Nat.{ℕ, ◌+◌, ◌-◌, ◌*◌, ◌≤◌, ◌<◌}
use native.Mathlib.Omega.{arith}
use lib.ListN.{length, get_or, take, length-append, get_or-append}
use lib.Seq.{get_or-append-add}
use Rattle.layout.specs.Sizes.{register_words, node_words}
use Rattle.layout.specs.Words.{tab, part, le32, words_at}
use Rattle.layout.proofs.Tab.{tab_full, tab_is, get_d_past}
use Rattle.layout.proofs.Packing.{length_words, get_d_words}
use Rattle.flat.specs.Flat.{register_word, journey_word, node_word, secret_word, answer_word, answer_words, inputs_word, input_words, work_size, PartsLong, row_of}

-- from place p on, l is x
abbrev pub From : ℕ → List ℕ → List ℕ → Type 0
From p x l = (j : ℕ) → p ≤ j → get_or l j 0 ≡ get_or x (j - p) 0

next : (p n : ℕ) (x rest l : List ℕ) → length x ≡ n → From p (x ++ rest) l → From (p + n) rest l
next p n x rest l h from j g =
    let e : j - p ≡ length x + (j - (p + n)) = omega arith in
    from j (omega arith) ∙ ap (λ (i : ℕ). get_or (x ++ rest) i 0) e ∙ get_or-append-add x rest (j - (p + n)) 0

here : (p n : ℕ) (x rest l : List ℕ) → length x ≡ n → From p (x ++ rest) l → (j : ℕ) → p ≤ j → j < p + n → get_or l j 0 ≡ get_or x (j - p) 0
here p n x rest l h from j g b = from j g ∙ get_or-append x rest 0 (j - p) (omega arith)

part_here : (p n : ℕ) (x l : List ℕ) → length x ≡ n → ((j : ℕ) → p ≤ j → j < p + n → get_or l j 0 ≡ get_or x (j - p) 0) → part n l p ≡ x
unfolding part
part_here p n x l h at =
    tab_is (λ k. get_or l (p + k) 0) x n h
    (λ i b. let e : p + i - p ≡ i = omega arith in at (p + i) (omega arith) (omega arith) ∙ ap (λ (k : ℕ). get_or x k 0) e)

-- word j - p of bytes, four to a word
packed : (p n : ℕ) (x l : List ℕ) (j : ℕ) → j < p + n → p ≤ j → get_or l j 0 ≡ get_or (words_at n x 0) (j - p) 0 → get_or l j 0 ≡ le32 x (4 * (j - p))
packed p n x l j b g e = e ∙ get_d_words n x 0 (j - p) (omega arith) ∙ ap (le32 x) (omega arith)

module _ (head register journey node secret answer inputs : List ℕ) (long : PartsLong head register journey node secret) where
  abbrev row : List ℕ
  row = row_of head register journey node secret answer inputs

  abbrev answered : List ℕ
  answered = words_at answer_words answer 0

  abbrev told : List ℕ
  told = words_at input_words inputs 0

  row_head : From 0 (head ++ (register ++ (journey ++ (node ++ (secret ++ (answered ++ told)))))) row
  unfolding row_of
  row_head j l = let e : j ≡ j - 0 = omega arith in
      ap (λ (i : ℕ). get_or (head ++ (register ++ (journey ++ (node ++ (secret ++ (answered ++ told)))))) i 0) e

  row_register : From register_word (register ++ (journey ++ (node ++ (secret ++ (answered ++ told))))) row
  row_register = next 0 register_word head (register ++ (journey ++ (node ++ (secret ++ (answered ++ told))))) row long.head_long row_head

  row_journey : From journey_word (journey ++ (node ++ (secret ++ (answered ++ told)))) row
  row_journey = next register_word register_words register (journey ++ (node ++ (secret ++ (answered ++ told)))) row long.register_long row_register

  row_node : From node_word (node ++ (secret ++ (answered ++ told))) row
  row_node = next journey_word register_words journey (node ++ (secret ++ (answered ++ told))) row long.journey_long row_journey

  row_secret : From secret_word (secret ++ (answered ++ told)) row
  row_secret = next node_word node_words node (secret ++ (answered ++ told)) row long.node_long row_node

  row_answer : From answer_word (answered ++ told) row
  row_answer = next secret_word register_words secret (answered ++ told) row long.secret_long row_secret

  row_inputs : From inputs_word told row
  row_inputs = next answer_word answer_words answered told row (length_words answer_words answer 0) row_answer

  -- ---- word by word

  pub at_head : (j : ℕ) → j < register_word → get_or row j 0 ≡ get_or head j 0
  unfolding row_of
  at_head j b = get_or-append head (register ++ (journey ++ (node ++ (secret ++ (answered ++ told))))) 0 j (omega (arith, long.head_long))

  pub at_register : (j : ℕ) → register_word ≤ j → j < journey_word → get_or row j 0 ≡ get_or register (j - register_word) 0
  at_register = here register_word register_words register _ row long.register_long row_register

  pub at_journey : (j : ℕ) → journey_word ≤ j → j < node_word → get_or row j 0 ≡ get_or journey (j - journey_word) 0
  at_journey = here journey_word register_words journey _ row long.journey_long row_journey

  pub at_node : (j : ℕ) → node_word ≤ j → j < secret_word → get_or row j 0 ≡ get_or node (j - node_word) 0
  at_node = here node_word node_words node _ row long.node_long row_node

  pub at_secret : (j : ℕ) → secret_word ≤ j → j < answer_word → get_or row j 0 ≡ get_or secret (j - secret_word) 0
  at_secret = here secret_word register_words secret _ row long.secret_long row_secret

  pub at_answer : (j : ℕ) → answer_word ≤ j → j < inputs_word → get_or row j 0 ≡ le32 answer (4 * (j - answer_word))
  at_answer j g b = packed answer_word answer_words answer row j b g (here answer_word answer_words answered told row (length_words answer_words answer 0) row_answer j g b)

  pub at_inputs : (j : ℕ) → inputs_word ≤ j → j < work_size → get_or row j 0 ≡ le32 inputs (4 * (j - inputs_word))
  at_inputs j g b = packed inputs_word input_words inputs row j b g (row_inputs j g)

  row_length : length row ≡ work_size
  unfolding row_of
  row_length =
      let a = length-append head (register ++ (journey ++ (node ++ (secret ++ (answered ++ told))))) in
      let b = length-append register (journey ++ (node ++ (secret ++ (answered ++ told)))) in
      let c = length-append journey (node ++ (secret ++ (answered ++ told))) in
      let d = length-append node (secret ++ (answered ++ told)) in
      let e = length-append secret (answered ++ told) in
      let f = length-append answered told in
      let g = length_words answer_words answer 0 in
      let h = length_words input_words inputs 0 in
      omega (arith, long.head_long, long.register_long, long.journey_long, long.node_long, long.secret_long)

  pub at_end : (j : ℕ) → work_size ≤ j → get_or row j 0 ≡ 0
  at_end j g = sym (get_d_past row j (omega (arith, row_length)))

  -- ---- part by part

  pub part_register : part register_words row register_word ≡ register
  part_register = part_here register_word register_words register row long.register_long at_register

  pub part_journey : part register_words row journey_word ≡ journey
  part_journey = part_here journey_word register_words journey row long.journey_long at_journey

  pub part_node : part node_words row node_word ≡ node
  part_node = part_here node_word node_words node row long.node_long at_node

  pub part_secret : part register_words row secret_word ≡ secret
  part_secret = part_here secret_word register_words secret row long.secret_long at_secret

  -- a list that was filled with the row's words is the row
  pub row_filled : (l : List ℕ) → length l ≡ work_size → take work_size l ≡ tab work_size (λ i. get_or row i 0) → l ≡ row
  row_filled l h e = let f : ℕ → ℕ = λ i. get_or row i 0 in
      tab_full f l work_size h e ∙ tab_is f row work_size row_length (λ i b. refl)
