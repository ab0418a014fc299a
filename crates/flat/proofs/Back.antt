-- A work written as words and read back is the same work: the two words of a number give it back, a part of the row is its field, and bytes
-- packed four to a word are unpacked. It is true of every work within the types of its fields. Assumes nothing.
use Prim.Native.Nat.{ℕ, ◌+◌, ◌-◌, ◌*◌, ◌/◌, ◌%◌, ◌≤◌, ◌<◌}
use mathlib.Core.Path.{◌≡◌, refl, sym, ap, ◌∙◌}
use mathlib.Core.List.{List}
use native.Mathlib.Omega.{arith}
use lib.ListN.{length, get_or}
use Rattle.layout.specs.Sizes.{register_words, node_words, answer_max, input_bytes}
use Rattle.layout.specs.Words.{part, byte_of, le32, words_at}
use Rattle.layout.proofs.Tab.{tab_is}
use Rattle.layout.proofs.Packing.{get_d_words, get_d_bytes, bytes_words}
use Rattle.table.specs.declared.Kind.{Kind}
use Rattle.table.specs.Coding.{coded_of}
use Rattle.table.proofs.ByKind.{kind_back, coded_kind}
use Rattle.work.specs.declared.Work.{Work}
use Rattle.flat.specs.Flat.{register_word, journey_word, node_word, secret_word, answer_word, answer_words, inputs_word, input_words, low_of, high_of, joined_of, head_of, PartsLong, AllBytes, row_of, work_words, position_of, bytes_at, work_of}
use Rattle.flat.proofs.Rows.{at_answer, at_inputs, part_register, part_journey, part_node, part_secret}

pub joined_back : (n : ℕ) → joined_of (low_of n) (high_of n) ≡ n
joined_back n = omega arith

position_back : (k : Kind) (p : ℕ) → position_of (coded_of k).number p ≡ p
unfolding position_of
position_back k p = rw (coded_kind k)

-- bytes that stand in a row's words
bytes_back : (p n : ℕ) (x l : List ℕ) → length x ≡ 4 * n → AllBytes x
    → ((j : ℕ) → p ≤ j → j < p + n → get_or l j 0 ≡ le32 x (4 * (j - p))) → bytes_at (4 * n) l p ≡ x
unfolding bytes_at
bytes_back p n x l h small at =
    tab_is (λ k. byte_of (get_or l (p + k / 4) 0) (k % 4)) x (4 * n) h
    (λ i b.
    let e : 4 * (p + i / 4 - p) ≡ 0 + 4 * (i / 4) = omega arith in
    ap (λ (w : ℕ). byte_of w (i % 4)) (at (p + i / 4) (omega arith) (omega arith) ∙ ap (le32 x) e ∙ sym (get_d_words n x 0 (i / 4) (omega arith)))
    ∙ sym (get_d_bytes (4 * n) (words_at n x 0) i b)
    ∙ ap (λ (l : List ℕ). get_or l i 0) (bytes_words n x h small))

-- a work within the types of its fields: lengths, and bytes below 256
pub record Typed (w : Work) : Type 0 where
  pub register_long : length w.register ≡ register_words
  pub journey_long : length w.journey ≡ register_words
  pub node_long : length w.node ≡ node_words
  pub secret_long : length w.secret ≡ register_words
  pub answer_long : length w.answer ≡ answer_max
  pub answer_small : AllBytes w.answer
  pub inputs_long : length w.inputs ≡ input_bytes
  pub inputs_small : AllBytes w.inputs

module _ (w : Work) (t : Typed w) where
  long : PartsLong (head_of w) w.register w.journey w.node w.secret
  unfolding head_of
  long =
      record {
        head_long = refl;
        register_long = t.register_long;
        journey_long = t.journey_long;
        node_long = t.node_long;
        secret_long = t.secret_long;
      }

  -- the fields of the work, where they stand among its words
  register_back : part register_words (work_words w) register_word ≡ w.register
  unfolding work_words
  register_back = part_register _ _ _ _ _ _ _ long

  journey_back : part register_words (work_words w) journey_word ≡ w.journey
  unfolding work_words
  journey_back = part_journey _ _ _ _ _ _ _ long

  node_back : part node_words (work_words w) node_word ≡ w.node
  unfolding work_words
  node_back = part_node _ _ _ _ _ _ _ long

  secret_back : part register_words (work_words w) secret_word ≡ w.secret
  unfolding work_words
  secret_back = part_secret _ _ _ _ _ _ _ long

  answer_back : bytes_at answer_max (work_words w) answer_word ≡ w.answer
  unfolding work_words
  answer_back = bytes_back answer_word answer_words w.answer _ t.answer_long t.answer_small (at_answer _ _ _ _ _ _ _ long)

  inputs_back : bytes_at input_bytes (work_words w) inputs_word ≡ w.inputs
  unfolding work_words
  inputs_back = bytes_back inputs_word input_words w.inputs _ t.inputs_long t.inputs_small (at_inputs _ _ _ _ _ _ _ long)

  at0 : get_or (work_words w) 0 0 ≡ (coded_of w.kind).number
  unfolding work_words row_of head_of
  at0 = refl

  at1 : joined_of (get_or (work_words w) 1 0) (get_or (work_words w) 2 0) ≡ (coded_of w.kind).first
  unfolding work_words row_of head_of
  at1 = joined_back (coded_of w.kind).first

  at3 : joined_of (get_or (work_words w) 3 0) (get_or (work_words w) 4 0) ≡ (coded_of w.kind).second
  unfolding work_words row_of head_of
  at3 = joined_back (coded_of w.kind).second

  at5 : joined_of (get_or (work_words w) 5 0) (get_or (work_words w) 6 0) ≡ w.position
  unfolding work_words row_of head_of
  at5 = joined_back w.position

  at7 : joined_of (get_or (work_words w) 7 0) (get_or (work_words w) 8 0) ≡ w.answer_len
  unfolding work_words row_of head_of
  at7 = joined_back w.answer_len

  pub work_back : work_of (work_words w) ≡ w
  unfolding work_of
  work_back =
      rw (
        at0,
        at1,
        at3,
        at5,
        at7,
        kind_back w.kind,
        position_back w.kind w.position,
        register_back,
        journey_back,
        node_back,
        secret_back,
        answer_back,
        inputs_back,
      )
