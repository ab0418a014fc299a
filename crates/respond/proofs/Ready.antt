-- The work of a request that is not refused is well shaped, whatever the image holds: a decline is, and each command's own task by the command's laws.
-- Assumes nothing.
use Prim.Native.Nat.{ℕ, ◌≤◌, zero-le}
use mathlib.Core.Path.{◌≡◌, refl, sym, ap, ◌∙◌}
use mathlib.Core.Bool.{true}
use mathlib.Core.List.{List, ◌∷◌}
use lib.ListN.{length}
use borrow.Author.Tests.{le-leb}
use Rattle.std.specs.Prelude.{⊤, Ok}
use Rattle.layout.specs.Sizes.{image_words, answer_max}
use Rattle.layout.specs.Words.{bytes4}
use Rattle.tree.specs.Nodes.{tree_in}
use Rattle.table.specs.Table.{number_of, index_ok}
use Rattle.work.specs.Entries.{well_shaped, finished}
use Rattle.making.specs.Run.{all_stores}
use Rattle.making.specs.Made.{work_with}
use Rattle.making.proofs.After.{all_finished}
use Rattle.opening.specs.Tasks.{Request, Task, no_stores, Ruling, refused, accepted}
use Rattle.opening.specs.Rules.{command_of, answer_of, declined, served, ruled, request_rules}
use Rattle.opening.specs.Works.{facts_of, work_at}
use Rattle.opening.proofs.Decided.{NoneApply, ruled_decided}
use Rattle.command_laws.proofs.ByCommand.{declined_short}
use Rattle.command_laws.proofs.ByCode.{command_law}
use Rattle.opening.specs.Openings.{opened_of, size_rule, view_in, open_request}
use Rattle.opening.specs.declared.Opened.{Opened}

-- a ruling's work at an image, where it is not refused
abbrev Shaped : List ℕ → Ruling → Type 0
Shaped image (refused n) = Unit {0}
Shaped image (accepted t a) = well_shaped (work_at image t a) ≡ true

-- a work as an opening makes it, where the kind's indices are fine and the answer fits
opened_shape : (image : List ℕ) (t : Task) (a : List ℕ) → index_ok ((facts_of t).kind (tree_in image)) ((facts_of t).values image).node ≡ true → length a ≤ answer_max
    → well_shaped (work_at image t a) ≡ true
unfolding well_shaped work_at work_with
opened_shape image t a i h = rw (i, le-leb 0 (number_of ((facts_of t).kind (tree_in image))) zero-le, le-leb (length a) answer_max h)

-- ---- the rulings of a request

module _ (image : List ℕ) (r : Request) where
  command_shaped : NoneApply ((command_of r.code).rules (view_in image) r) → Shaped image (served (command_of r.code) r)
  unfolding view_in
  command_shaped n =
      let law = command_law r.code in
      opened_shape image ((command_of r.code).task r) (answer_of ((command_of r.code).answer r)) ((law.serves (view_in image) r n).index image refl) (law.short r)

  decline_shaped : (n : ℕ) → Shaped image (declined n)
  unfolding index_ok
  decline_shaped n = opened_shape image no_stores (answer_of (bytes4 n)) refl (declined_short n)

  opened_shaped : (R : Ruling) → Shaped image R → (opened_of image R).status ≡ Ok tt → well_shaped (opened_of image R).work ≡ true
  opened_shaped (refused n) h e = absurd cc
  opened_shaped (accepted t a) h e = h

  -- five rules come before the command's own
  ready_shaped : (open_request image r).status ≡ Ok tt → well_shaped (open_request image r).work ≡ true
  unfolding open_request
  ready_shaped e =
      let rules = size_rule image ∷ request_rules (view_in image) r in
      let c = command_of r.code in
      let shaped : Shaped image (ruled rules c r) =
      ruled_decided (Shaped image) rules c r (λ n. tt) decline_shaped (λ n. command_shaped n.1.1.1.1.1) in
      opened_shaped (ruled rules c r) shaped e

  -- so after all stores it is finished
  pub ready_finished : (o : Opened ⊤) → o ≡ open_request image r → o.status ≡ Ok tt → length image ≡ image_words
      → finished (all_stores o.work image).work ≡ true
  ready_finished o e ready long =
      let shaped : well_shaped o.work ≡ true = ap (λ (x : Opened ⊤). well_shaped x.work) e ∙ ready_shaped (sym (ap (λ (x : Opened ⊤). x.status) e) ∙ ready) in
      all_finished image long o.work shaped
