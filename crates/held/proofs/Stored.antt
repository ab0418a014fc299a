-- A store through the words is the store of the work that they are. What a store reads are the parts of that work (`parts`), so number and
-- image are its store's; the words afterwards differ in the position's two words alone, and are the work that the store hands back
-- (`store_step`): a work with a store left is of a known kind, whose position is the words' own. Assumes nothing.
use Prim.Native.Nat.{ℕ, ◌+◌, ◌/◌, ◌%◌, ◌≤◌, ◌<◌}
use mathlib.Core.Path.{◌≡◌, refl, sym, ap, ◌∙◌}
use mathlib.Core.Bool.{Bool, true, false}
use mathlib.Core.List.{List}
use native.Mathlib.Omega.{arith}
use lib.Dec.{eqb}
use lib.ListN.{length, get_or, set, take, drop, length-set}
use lib.Seq.{get_or-set_same, get_or-set_other}
use borrow.Author.Tests.{eq-eqb, ne_eqb, eqb-true, eqb-false}
use Rattle.layout.specs.Sizes.{register_words, node_words, answer_max, input_bytes}
use Rattle.layout.specs.Words.{part, byte_of}
use Rattle.layout.proofs.Tab.{tab_is, get_d_tab, length_tab}
use Rattle.layout.proofs.Packing.{length_part, get_d_part, part_within}
use Rattle.table.specs.declared.Kind.{Kind}
use Rattle.work.specs.declared.Work.{Work}
use Rattle.table.specs.Table.{number_of}
use Rattle.work.specs.Entries.{Stored, left_of, moved, store_number, store_result, store_image}
use Rattle.work.specs.Parts.{storing}
use Rattle.table.specs.Coding.{coded_as, is_kind}
use Rattle.table.proofs.ByKind.{no_kind}
use Rattle.work.proofs.Shape.{left_position}
use Rattle.work.proofs.Numbered.{allowed}
use Rattle.work.proofs.Parts.{storing_of}
use Rattle.flat.specs.Flat.{register_word, journey_word, node_word, secret_word, answer_word, inputs_word, work_size, low_of, high_of, long_at, position_of, bytes_at, work_of}
use Rattle.flat.specs.Forms.{store_number_in, with_position, store_words, store_hand, store_image_in}
use Rattle.flat.proofs.Back.{joined_back}

-- the parts of the work, read where they stand
module _ (l : List ℕ) (h : length l ≡ work_size) (kind : Kind) (p n : ℕ) (a : kind ≡ (work_of l).kind) (b : p ≡ (work_of l).position)
    (c : n ≡ (work_of l).answer_len) where
  abbrev pub parts_in : Work
  parts_in =
      storing kind p n (take register_words (drop register_word l)) (take register_words (drop journey_word l)) (take node_words (drop node_word l))
      (take register_words (drop secret_word l))

  pub parts : parts_in ≡ storing_of (work_of l)
  unfolding work_of
  parts =
      rw (
        a,
        b,
        c,
        part_within register_words l register_word (omega arith),
        part_within register_words l journey_word (omega arith),
        part_within node_words l node_word (omega arith),
        part_within register_words l secret_word (omega arith),
      )

module _ (l : List ℕ) (h : length l ≡ work_size) (p : ℕ) where
  -- every word but the position's two
  other : (j : ℕ) → (j ≡ 5 → ⊥) → (j ≡ 6 → ⊥) → get_or (with_position l p) j 0 ≡ get_or l j 0
  unfolding with_position
  other j a b = get_or-set_other (set l 5 (low_of p)) 6 j (high_of p) 0 b ∙ get_or-set_other l 5 j (low_of p) 0 a

  low_word : get_or (with_position l p) 5 0 ≡ low_of p
  unfolding with_position
  low_word = get_or-set_other (set l 5 (low_of p)) 6 5 (high_of p) 0 (λ e. omega (arith, e)) ∙ get_or-set_same l 5 (low_of p) 0 (omega arith)

  high_word : get_or (with_position l p) 6 0 ≡ high_of p
  unfolding with_position
  high_word = get_or-set_same (set l 5 (low_of p)) 6 (high_of p) 0 (omega (arith, length-set l 5 (low_of p)))

  part_kept : (n at : ℕ) → 7 ≤ at → part n (with_position l p) at ≡ part n l at
  unfolding part
  part_kept n at b =
      tab_is (λ k. get_or (with_position l p) (at + k) 0) (part n l at) n (length_part n l at)
      (λ i c. other (at + i) (λ e. omega (arith, e)) (λ e. omega (arith, e)) ∙ sym (get_d_part n l at i c))

  bytes_kept : (n at : ℕ) → 7 ≤ at → bytes_at n (with_position l p) at ≡ bytes_at n l at
  unfolding bytes_at
  bytes_kept n at b =
      let f : ℕ → ℕ = λ k. byte_of (get_or l (at + k / 4) 0) (k % 4) in
      tab_is (λ k. byte_of (get_or (with_position l p) (at + k / 4) 0) (k % 4)) (bytes_at n l at) n (length_tab f n)
      (λ i c.
      ap (λ (x : ℕ). byte_of x (i % 4)) (other (at + i / 4) (λ e. omega (arith, e)) (λ e. omega (arith, e)))
      ∙ sym (get_d_tab f n i c))

  abbrev placed : ℕ → Work
  placed x =
      record {
        kind = (work_of l).kind;
        position = x;
        register = (work_of l).register;
        journey = (work_of l).journey;
        node = (work_of l).node;
        secret = (work_of l).secret;
        answer = (work_of l).answer;
        answer_len = (work_of l).answer_len;
        inputs = (work_of l).inputs;
      }

  -- of a known kind: the work, at that position
  position_set : is_kind (get_or l 0 0) ≡ true → work_of (with_position l p) ≡ placed p
  unfolding work_of position_of
  position_set k =
      rw (
        other 0 (λ e. omega (arith, e)) (λ e. omega (arith, e)),
        other 1 (λ e. omega (arith, e)) (λ e. omega (arith, e)),
        other 2 (λ e. omega (arith, e)) (λ e. omega (arith, e)),
        other 3 (λ e. omega (arith, e)) (λ e. omega (arith, e)),
        other 4 (λ e. omega (arith, e)) (λ e. omega (arith, e)),
        other 7 (λ e. omega (arith, e)) (λ e. omega (arith, e)),
        other 8 (λ e. omega (arith, e)) (λ e. omega (arith, e)),
        low_word,
        high_word,
        k,
        joined_back p,
        part_kept register_words register_word (omega arith),
        part_kept register_words journey_word (omega arith),
        part_kept node_words node_word (omega arith),
        part_kept register_words secret_word (omega arith),
        bytes_kept answer_max answer_word (omega arith),
        bytes_kept input_bytes inputs_word (omega arith),
      )

-- a work with a store left is of a known kind
module _ (l : List ℕ) where
  no_number : is_kind (get_or l 0 0) ≡ false → number_of (work_of l).kind ≡ 0
  unfolding work_of
  no_number = no_kind (coded_as (get_or l 0 0) (long_at l 1) (long_at l 3))

  pub known : 0 < left_of (work_of l) → is_kind (get_or l 0 0) ≡ true
  known left = by (is_kind (get_or l 0 0)) refl
    where
      by : (b : Bool) → is_kind (get_or l 0 0) ≡ b → b ≡ true
      by true e = refl
      by false e = absurd (omega (arith, no_number e, left_position (work_of l) left))

-- the number and the work of a store, by whether it is made
made : (w : Work) (image : List ℕ) → eqb (store_number w image) 0 ≡ true → store_result w image ≡ record { number = 0; work = moved w }
unfolding store_result
made w image e = rw e

kept : (w : Work) (image : List ℕ) → eqb (store_number w image) 0 ≡ false → store_result w image ≡ record { number = store_number w image; work = w }
unfolding store_result
kept w image e = rw e

-- a store that is made had one left
made_left : (w : Work) (image : List ℕ) → eqb (store_number w image) 0 ≡ true → 0 < left_of w
made_left w image e = (allowed w image (eqb-true (store_number w image) 0 e)).some

module _ (l image : List ℕ) (h : length l ≡ work_size) where
  number_of_law : store_number_in l image ≡ (store_result (work_of l) image).number
  unfolding store_number_in
  number_of_law = rw (eq-eqb (length l) work_size h)

  words_made : store_number_in l image ≡ 0 → store_words l image ≡ with_position l (store_result (work_of l) image).work.position
  unfolding store_words
  words_made e = rw e

  words_same : (store_number_in l image ≡ 0 → ⊥) → store_words l image ≡ l
  unfolding store_words
  words_same e = rw (ne_eqb (store_number_in l image) 0 e)

  -- what the words are after a store through them is what the store of the work hands back
  pub store_step : work_of (store_words l image) ≡ (store_result (work_of l) image).work
  store_step = by (eqb (store_number (work_of l) image) 0) refl
    where
      by : (t : Bool) → eqb (store_number (work_of l) image) 0 ≡ t → work_of (store_words l image) ≡ (store_result (work_of l) image).work
      by true e =
          let r = made (work_of l) image e in
          ap work_of (words_made (number_of_law ∙ ap (λ (s : Stored). s.number) r) ∙ ap (λ (s : Stored). with_position l s.work.position) r)
          ∙ position_set l h ((work_of l).position + 1) (known l (made_left (work_of l) image e))
          ∙ sym (ap (λ (s : Stored). s.work) r)
      by false e =
          let r = kept (work_of l) image e in
          ap work_of (words_same (λ z. eqb-false (store_number (work_of l) image) 0 e (sym (number_of_law ∙ ap (λ (s : Stored). s.number) r) ∙ z)))
          ∙ sym (ap (λ (s : Stored). s.work) r)

-- ---- the C form's clauses

-- a store's result, by its number
result_number : (w : Work) (image : List ℕ) → (store_result w image).number ≡ store_number w image
result_number w image = by (eqb (store_number w image) 0) refl
  where
    by : (t : Bool) → eqb (store_number w image) 0 ≡ t → (store_result w image).number ≡ store_number w image
    by true e = ap (λ (s : Stored). s.number) (made w image e) ∙ sym (eqb-true (store_number w image) 0 e)
    by false e = ap (λ (s : Stored). s.number) (kept w image e)

module _ (l image : List ℕ) (h : length l ≡ work_size) (n : ℕ) (e : n ≡ store_number (work_of l) image) where
  pub number_in : n ≡ store_number_in l image
  unfolding store_number_in
  number_in = rw (eq-eqb (length l) work_size h) (e ∙ sym (result_number (work_of l) image))

  pub image_in : (x : List ℕ) → x ≡ store_image (work_of l) image → x ≡ store_image_in l image
  unfolding store_image_in
  image_in x p = rw (eq-eqb (length l) work_size h) p

  pub words_kept : (n ≡ 0 → ⊥) → l ≡ store_words l image
  words_kept g = sym (words_same l image h (λ z. g (number_in ∙ z)))

  pub words_moved : n ≡ 0 → with_position l ((work_of l).position + 1) ≡ store_words l image
  words_moved z =
      let g = eq-eqb (store_number (work_of l) image) 0 (sym e ∙ z) in
      sym (words_made l image h (sym number_in ∙ z) ∙ ap (λ (s : Stored). with_position l s.work.position) (made (work_of l) image g))

  pub hand_in : (x : List ℕ) → x ≡ store_words l image → work_of x ≡ store_hand l image
  unfolding store_hand
  hand_in x p = rw (eq-eqb (length l) work_size h) (ap work_of p ∙ store_step l image h)
