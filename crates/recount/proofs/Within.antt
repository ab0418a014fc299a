-- A tree command's data within the bytes of its entry, as the code takes it from there. Assumes nothing.
use mathlib.Core.Path.{◌≡◌, refl, ap, ◌∙◌}
use Prim.Native.Nat.{ℕ, suc, ◌-◌, ◌≤◌, ◌<◌}
use native.Mathlib.Omega.{arith}
use mathlib.Core.List.{List, [], ◌∷◌, ◌++◌, append_assoc}
use mathlib.Core.Option.{Option}
use lib.ListN.{length, get_or, set, take, drop, replicate, length-set, length-append, length-drop, length-replicate}
use lib.Seq.{take-append-le, take-append_seam, length-take-le}
use borrow.Author.Tests.{le-ltb}
use Rattle.std.proofs.Common.{Result, Ok}
use Rattle.std.specs.Prelude.{⊤}
use Rattle.layout.specs.declared.refusals.Refusal.{Refusal}
use Rattle.layout.specs.Sizes.{handle_bytes}
use Rattle.journal.specs.Entries.{Entry, kind_byte, form_of, fields_of, values_of, entry_bytes, longest}
use Rattle.journal.specs.Numbers.{groups, number_bytes}
use Rattle.journal.specs.Fields.{fields_bytes}
use Rattle.journal.specs.Entries as entry
use Rattle.journal_bytes.specs.Results.{parts_with, handle_part, fresh_part, entry_in, taken_given, taken_number, taken_result, taken_buffer}
use Rattle.journal_bytes.specs.declared.entry.EntryParts.{EntryParts}
use Rattle.journal_bytes.specs.declared.entry.EntryKind.{EntryKind}
use Rattle.journal_bytes.specs.declared.entry.EntryKind.TheVariants.{ColdBoot, Update, Disabling, Stash, Extension, Derive, Extend, Rotate, Destroy}
use Rattle.replaying.specs.Asked.{invoke_asked, derive_data, extend_data, rotate_data, destroy_data}
use Rattle.replaying.proofs.Short.{entry_most}
use Rattle.recount.specs.OnImage.{request_made, made_on, counting_in, image_after}
use Rattle.recount.specs.Within.{without_caller, data_within}

-- ---- an entry of any parts is not too long

handle_long : (second : List ℕ) → length second ≡ 48 → length (handle_part second) ≡ handle_bytes
handle_long second s = length-take-le handle_bytes second (omega arith)

fresh_long : (second : List ℕ) → length second ≡ 48 → length (fresh_part second) ≡ handle_bytes
fresh_long second s = length-take-le handle_bytes (drop handle_bytes second) (omega (arith, length-drop handle_bytes second))

module _ (value svn retain caller : ℕ) (first second : List ℕ) (f : length first ≡ 48) (s : length second ≡ 48) where
  pub parts_short : (k : EntryKind) → length (entry_bytes (entry_in (parts_with k value svn retain caller first second))) ≤ longest
  unfolding entry_in
  parts_short ColdBoot = omega (arith, entry_most (entry.cold_boot first second) (f, (s, tt)))
  parts_short Update = omega (arith, entry_most (entry.update first second) (f, (s, tt)))
  parts_short Disabling = omega (arith, entry_most entry.disabling tt)
  parts_short Stash = omega (arith, entry_most (entry.stash value first svn caller) (tt, (f, (tt, (tt, tt)))))
  parts_short Extension = omega (arith, entry_most (entry.extension value first) (tt, (f, tt)))
  parts_short Derive =
      omega (
        arith,
        entry_most (entry.derive (handle_part second) retain value first (fresh_part second) caller) (handle_long second s, (tt, (tt, (f, (fresh_long second s, (tt, tt)))))),
      )
  parts_short Extend = omega (arith, entry_most (entry.extend (handle_part second) first caller) (handle_long second s, (f, (tt, tt))))
  parts_short Rotate = omega (arith, entry_most (entry.rotate (handle_part second) (fresh_part second) caller) (handle_long second s, (fresh_long second s, (tt, tt))))
  parts_short Destroy = omega (arith, entry_most (entry.destroy (handle_part second) caller) (handle_long second s, (tt, tt)))

-- ---- written into a draft, whose first byte is then changed

-- the front of a list with another first element
fronts : (k : ℕ) (m : List ℕ) (tail : ℕ) (rest : List ℕ) (v : ℕ) → tail < suc (length m)
    → take (suc (length m) - tail) (v ∷ (m ++ rest)) ≡ v ∷ drop 1 (take (suc (length m) - tail) (k ∷ m))
fronts k m tail rest v h =
    let e : suc (length m) - tail ≡ suc (length m - tail) = omega arith in
    rw e (ap (λ (t : List ℕ). v ∷ t) (take-append-le (length m - tail) m rest (omega arith)))

-- the draft has room for any entry
pub draft_fits : (e : Entry) → length (entry_bytes e) ≤ longest → taken_result (entry_bytes e) (replicate 104 0) ≡ Ok (length (entry_bytes e))
unfolding taken_given taken_result
draft_fits e short = rw (le-ltb 104 (length (entry_bytes e)) short) refl

module _ (tail : ℕ) (e : Entry) (short : length (entry_bytes e) ≤ longest) (more : tail < length (entry_bytes e)) (n : ℕ) (d : List ℕ)
    (taken : Ok n ≡ taken_result (entry_bytes e) (replicate 104 0)) (drafted : d ≡ taken_buffer (entry_bytes e) (replicate 104 0)) where
  rest : List ℕ
  rest = drop (length (entry_bytes e)) (replicate 104 0)

  all_written : n ≡ length (entry_bytes e)
  all_written = let q : Ok n ≡ Ok (length (entry_bytes e)) = taken ∙ draft_fits e short in cc

  draft_written : d ≡ entry_bytes e ++ rest
  unfolding taken_given taken_buffer taken_number rest
  draft_written = drafted ∙ rw (le-ltb 104 (length (entry_bytes e)) short)

  draft_long : length d ≡ 104
  unfolding rest
  draft_long =
      ap length draft_written
      ∙ length-append (entry_bytes e) rest
      ∙ omega (arith, length-drop {A = ℕ} (length (entry_bytes e)) (replicate 104 0), length-replicate {A = ℕ} 104 0)

  -- the first byte is the kind's
  pub kind_there : 5 ≤ kind_byte (form_of e) → 5 ≤ get_or d 0 0
  unfolding entry_bytes
  kind_there h = rw draft_written h

  pub tail_there : tail ≤ n
  tail_there = omega (arith, all_written)

  abbrev changed : List ℕ
  changed = set d 0 (get_or d 0 0 - 5)

  pub front_there : n - tail ≤ length changed
  front_there = omega (arith, all_written, length-set d 0 (get_or d 0 0 - 5), draft_long)

  pub front_long : length (take (n - tail) changed) ≡ n - tail
  front_long = length-take-le (n - tail) changed front_there

  pub front_short : length (take (n - tail) changed) ≤ longest
  front_short = omega (arith, front_long, all_written)

  pub front_data : take (n - tail) changed ≡ data_within tail e
  unfolding entry_bytes data_within
  front_data =
      rw (all_written, draft_written)
      (fronts (kind_byte (form_of e)) (fields_bytes (fields_of (form_of e)) (values_of e)) tail rest (kind_byte (form_of e) - 5) more)

-- ---- the data of each command

-- an entry's bytes hold the data before their last ones
abbrev Holds : ℕ → Entry → List ℕ → Type 0
Holds tail e l = (data_within tail e ≡ l) × (tail < length (entry_bytes e))

before_tail : (k j : ℕ) (l t m : List ℕ) (tail : ℕ) → l ++ t ≡ m → length t ≡ tail → k - 5 ≡ j
    → ((k - 5) ∷ drop 1 (take (length (k ∷ m) - tail) (k ∷ m)) ≡ j ∷ l) × (tail < length (k ∷ m))
before_tail k j l t m tail e n q =
    let front : suc (length m) - tail ≡ suc (length l) = omega (arith, ap length e, length-append l t) in
    (rw (q, front, ← e) (ap (λ (x : List ℕ). j ∷ x) (take-append_seam l t)), omega (arith, front))

derive_within : (h : List ℕ) (r t : ℕ) (d f : List ℕ) → length f ≡ handle_bytes → Holds 21 (entry.derive h r t d f 0) (derive_data h r t d)
unfolding data_within entry_bytes groups
derive_within h r t d f n =
    before_tail 6 1 (h ++ (number_bytes r ++ (number_bytes t ++ d))) (f ++ (0 ∷ [])) _ 21 laid (omega (arith, length-append f (0 ∷ []))) refl
  where
    laid : (h ++ (number_bytes r ++ (number_bytes t ++ d))) ++ (f ++ (0 ∷ [])) ≡ h ++ (number_bytes r ++ (number_bytes t ++ (d ++ (f ++ (0 ∷ [])))))
    laid = simp append_assoc

extend_within : (h d : List ℕ) → Holds 1 (entry.extend h d 0) (extend_data h d)
unfolding data_within entry_bytes groups
extend_within h d = before_tail 7 2 (h ++ d) (0 ∷ []) _ 1 (append_assoc h d (0 ∷ [])) refl refl

rotate_within : (h f : List ℕ) → length f ≡ handle_bytes → Holds 21 (entry.rotate h f 0) (rotate_data h)
unfolding data_within entry_bytes groups
rotate_within h f n = before_tail 8 3 h (f ++ (0 ∷ [])) _ 21 refl (omega (arith, length-append f (0 ∷ []))) refl

destroy_within : (h : List ℕ) → Holds 1 (entry.destroy h 0) (destroy_data h)
unfolding data_within entry_bytes groups
destroy_within h = before_tail 9 4 h (0 ∷ []) _ 1 refl refl refl

-- ---- the request with that data is the one for the entry

pub record Asks (tail : ℕ) (e : EntryParts) (fresh : List ℕ) : Type 0 where
  pub kind : 5 ≤ kind_byte (form_of (entry_in (without_caller e)))
  pub more : tail < length (entry_bytes (entry_in (without_caller e)))
  pub made : (image : List ℕ) → request_made image (invoke_asked (data_within tail (entry_in (without_caller e))) fresh e.caller) ≡ made_on image (entry_in e)

module _ (e : EntryParts) (long : length e.second ≡ 48) where
  fresh_handle : length (fresh_part e.second) ≡ handle_bytes
  fresh_handle = fresh_long e.second long

  -- requests that differ in the data
  same : (image fresh l m : List ℕ) → l ≡ m → request_made image (invoke_asked l fresh e.caller) ≡ request_made image (invoke_asked m fresh e.caller)
  same image fresh l m q = ap (λ (x : List ℕ). request_made image (invoke_asked x fresh e.caller)) q

  pub derive_asks : e.kind ≡ Derive → Asks 21 e (fresh_part e.second)
  unfolding entry_in made_on
  derive_asks k =
      let w = derive_within (handle_part e.second) e.retain e.value e.first (fresh_part e.second) fresh_handle in
      record { kind = rw k (omega arith); more = rw k w.1; made = λ image. rw k (same image (fresh_part e.second) _ _ w.0) }

  pub extend_asks : e.kind ≡ Extend → Asks 1 e []
  unfolding entry_in made_on
  extend_asks k =
      let w = extend_within (handle_part e.second) e.first in
      record { kind = rw k (omega arith); more = rw k w.1; made = λ image. rw k (same image [] _ _ w.0) }

  pub rotate_asks : e.kind ≡ Rotate → Asks 21 e (fresh_part e.second)
  unfolding entry_in made_on
  rotate_asks k =
      let w = rotate_within (handle_part e.second) (fresh_part e.second) fresh_handle in
      record { kind = rw k (omega arith); more = rw k w.1; made = λ image. rw k (same image (fresh_part e.second) _ _ w.0) }

  pub destroy_asks : e.kind ≡ Destroy → Asks 1 e []
  unfolding entry_in made_on
  destroy_asks k =
      let w = destroy_within (handle_part e.second) in
      record { kind = rw k (omega arith); more = rw k w.1; made = λ image. rw k (same image [] _ _ w.0) }

-- what it makes is what the entry does
pub made_by : {tail : ℕ} {e : EntryParts} {fresh : List ℕ} → Asks tail e fresh → (image : List ℕ) {after : List ℕ} {r : Result ⊤ Refusal}
    → (r ≡ counting_in (request_made image (invoke_asked (data_within tail (entry_in (without_caller e))) fresh e.caller)))
    × (after ≡ image_after (request_made image (invoke_asked (data_within tail (entry_in (without_caller e))) fresh e.caller)) image)
    → (r ≡ counting_in (made_on image (entry_in e))) × (after ≡ image_after (made_on image (entry_in e)) image)
made_by a image p = (p.0 ∙ ap counting_in (a.made image), p.1 ∙ ap (λ (o : Option (List ℕ)). image_after o image) (a.made image))
