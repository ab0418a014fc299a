-- A command by its first byte. Assumes nothing.
use Prim.Native.Nat.{ℕ, suc, ◌-◌, ◌≤◌, ◌<◌}
use mathlib.Core.Path.{◌≡◌, refl, sym, ap, ◌∙◌}
use mathlib.Core.List.{List, [], ◌∷◌}
use native.Mathlib.Omega.{arith}
use lib.ListN.{length, get_or, take, drop, drop_of_length-le}
use lib.Seq.{take_all}
use borrow.Author.Tests.{ne_eqb}
use Rattle.std.specs.Prelude.{Option, Some, None, MatchOption, IsSomeAnd, option_map, unwrap_or}
use Rattle.journal.specs.Read.{Read, refused, got, map_read}
use Rattle.journal.specs.Fields.{Values, read_fields}
use Rattle.journal.specs.Entries.{derive_fields, extend_fields, handle_fields}
use Rattle.journal_bytes.specs.Results.{derive_parts, derive_read}
use Rattle.opening.specs.Orders.{NodeCommand, derive, extend, rotate, destroy, whole, command_in}
use Rattle.orders.specs.declared.Order.{Order}
use Rattle.orders.specs.declared.Order.TheVariants.{Derive, Extend, Rotate, Destroy, Malformed}
use Rattle.orders.specs.Told.{order_told, whole_told}

-- what is told of whole fields is told of the command that they make
told_whole : {A B : Type 0} (x : Read A) (f : A → B) (told : B → Order) (command : A → NodeCommand) → ((v : A) → told (f v) ≡ order_told (command v))
    → unwrap_or (whole_told (map_read f x) told) Malformed ≡ order_told (whole x command)
unfolding whole_told order_told
told_whole (refused n) f told command h = refl
told_whole (got v []) f told command h = h v
told_whole (got v (b ∷ rest)) f told command h = refl

-- the same of fields that are told first and make the order then
told_then : {A B : Type 0} (x : Read A) (told : A → B) (order : B → Order) (command : A → NodeCommand) → ((v : A) → order (told v) ≡ order_told (command v))
    → unwrap_or (option_map order (whole_told x told)) Malformed ≡ order_told (whole x command)
unfolding whole_told order_told
told_then (refused n) told order command h = refl
told_then (got v []) told order command h = h v
told_then (got v (b ∷ rest)) told order command h = refl

-- what `map` ensures where it is given f
mapped : {A B : Type 0} (f : A → B) (o : Option A) (r : Option B) → MatchOption o (r ≡ None) (λ x. IsSomeAnd r (λ y. y ≡ f x)) → r ≡ option_map f o
mapped f None r h = h
mapped f (Some x) None h = absurd h
mapped f (Some x) (Some y) h = ap Some h

same_read : {A : Type 0} (x : Read A) → x ≡ map_read (λ v. v) x
same_read (refused n) = refl
same_read (got v rest) = refl

-- ---- by the first byte

pub order_none : (s : List ℕ) → length s < 1 → Malformed ≡ order_told (command_in s)
unfolding command_in order_told
order_none [] h = refl
order_none (b ∷ s) h = absurd (omega arith)

-- no byte from the index on
pub order_past : (s : List ℕ) (at : ℕ) → length s ≤ at → Malformed ≡ order_told (command_in (drop at s))
order_past s at h = rw (drop_of_length-le s {i = at} h) (order_none [] (omega arith))

module _ (s rest : List ℕ) (h : 1 ≤ length s) (r : rest ≡ take (length s - 1) (drop 1 s)) where
  from_byte : s ≡ get_or s 0 0 ∷ rest
  from_byte = split s rest h r
    where
      split : (s rest : List ℕ) → 1 ≤ length s → rest ≡ take (length s - 1) (drop 1 s) → s ≡ get_or s 0 0 ∷ rest
      split [] rest h r = absurd (omega arith)
      split (b ∷ s) rest h r = ap (λ (l : List ℕ). b ∷ l) (sym (r ∙ take_all (suc (length s) - 1) s (omega arith)))

  pub order_derive : get_or s 0 0 ≡ 1 → unwrap_or (whole_told (derive_read rest) (λ fields. Derive fields)) Malformed ≡ order_told (command_in s)
  unfolding command_in order_told derive_read
  order_derive e =
      told_whole (read_fields derive_fields rest) derive_parts (λ fields. Derive fields) (λ vs. derive vs.0 vs.1.0 vs.1.1.0 vs.1.1.1.0) (λ vs. refl)
      ∙ sym (ap (λ (l : List ℕ). order_told (command_in l)) (from_byte ∙ ap (λ (k : ℕ). k ∷ rest) e))

  pub order_extend : get_or s 0 0 ≡ 2 → unwrap_or (whole_told (read_fields extend_fields rest) (λ vs. Extend vs.0 vs.1.0)) Malformed ≡ order_told (command_in s)
  unfolding command_in order_told
  order_extend e =
      ap (λ (x : Read (Values extend_fields)). unwrap_or (whole_told x (λ vs. Extend vs.0 vs.1.0)) Malformed) (same_read (read_fields extend_fields rest))
      ∙ told_whole (read_fields extend_fields rest) (λ vs. vs) (λ vs. Extend vs.0 vs.1.0) (λ vs. extend vs.0 vs.1.0) (λ vs. refl)
      ∙ sym (ap (λ (l : List ℕ). order_told (command_in l)) (from_byte ∙ ap (λ (k : ℕ). k ∷ rest) e))

  -- of the handle that a rotate or a destroy has alone, o, and what `map` makes of it
  module _ (o : Option (List ℕ)) (made : Option Order) (told : o ≡ whole_told (read_fields handle_fields rest) (λ vs. vs.0)) where
    pub order_rotate : MatchOption o (made ≡ None) (λ x. IsSomeAnd made (λ y. y ≡ Rotate x)) → get_or s 0 0 ≡ 3 → unwrap_or made Malformed ≡ order_told (command_in s)
    unfolding command_in order_told
    order_rotate m e =
        rw (mapped (λ k. Rotate k) o made m, told) (told_then (read_fields handle_fields rest) (λ vs. vs.0) (λ k. Rotate k) (λ vs. rotate vs.0) (λ vs. refl))
        ∙ sym (ap (λ (l : List ℕ). order_told (command_in l)) (from_byte ∙ ap (λ (k : ℕ). k ∷ rest) e))

    pub order_destroy : MatchOption o (made ≡ None) (λ x. IsSomeAnd made (λ y. y ≡ Destroy x)) → get_or s 0 0 ≡ 4 → unwrap_or made Malformed ≡ order_told (command_in s)
    unfolding command_in order_told
    order_destroy m e =
        rw (mapped (λ k. Destroy k) o made m, told) (told_then (read_fields handle_fields rest) (λ vs. vs.0) (λ k. Destroy k) (λ vs. destroy vs.0) (λ vs. refl))
        ∙ sym (ap (λ (l : List ℕ). order_told (command_in l)) (from_byte ∙ ap (λ (k : ℕ). k ∷ rest) e))

  pub order_unlisted : let c = get_or s 0 0 in
      (c ≡ 1 → ⊥) → (c ≡ 2 → ⊥) → (c ≡ 3 → ⊥) → (c ≡ 4 → ⊥) → Malformed ≡ order_told (command_in s)
  unfolding command_in order_told
  order_unlisted d e f g =
      let c = get_or s 0 0 in
      let q : Malformed ≡ order_told (command_in (c ∷ rest)) = rw (ne_eqb c 1 d, ne_eqb c 2 e, ne_eqb c 3 f, ne_eqb c 4 g) refl in
      q ∙ sym (ap (λ (l : List ℕ). order_told (command_in l)) from_byte)
