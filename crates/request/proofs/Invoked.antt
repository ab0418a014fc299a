-- A tree command's request: what was read is the request's order, and behind attestation and form its first ground decides. Assumes nothing.
use Prim.Native.Nat.{ℕ}
use mathlib.Core.Path.{◌≡◌, refl, ap, ◌∙◌}
use mathlib.Core.Bool.{true, false, cond}
use mathlib.Core.List.{List, []}
use lib.Dec.{eqb}
use lib.ListN.{get_or, drop}
use Rattle.layout.specs.Sizes.{node_count, attestation_at}
use Rattle.tree.specs.Tree.{well_formed}
use Rattle.tree.specs.Nodes.{tree_in}
use Rattle.opening.specs.Orders.{NodeCommand, derive, extend, rotate, destroy, malformed, command_in, fresh_for}
use Rattle.opening.specs.Tasks.{Order, Request, request_of, invoke}
use Rattle.opening.specs.Rules.{order_in, order_rules, invoke_dpe, invoke_code, declined, served}
use Rattle.opening.specs.Works.{order_values, work_at}
use Rattle.opening.specs.Openings.{view_in}
use Rattle.work.specs.declared.Work.{Work}
use Rattle.orders.specs.Told.{order_told}
use Rattle.orders.specs.declared.Order as read
use Rattle.grounds.specs.Ground.{order_of, first_of, ground_of}
use Rattle.grounds.proofs.First.{order_decided, told_back, ground_told}
use Rattle.request.specs.Screen.{ruled_work, screened_opened}

-- a fresh handle that a command does not take is not looked at
pub values_fresh : (c : NodeCommand) (fresh : List ℕ) (caller : ℕ) (image : List ℕ) → order_values c fresh caller image ≡ order_values c (fresh_for c fresh) caller image
values_fresh (derive h r t d) fresh caller image = refl
values_fresh (extend h d) fresh caller image = refl
values_fresh (rotate h) fresh caller image = refl
values_fresh (destroy h) fresh caller image = refl
values_fresh malformed fresh caller image = refl

module _ (image bytes : List ℕ) (caller : ℕ) (fresh : List ℕ) where
  abbrev asked : Request
  asked = request_of invoke_code bytes caller [] false fresh

  pub order_read : order_of (order_told (command_in (drop 8 bytes))) fresh caller ≡ order_in asked
  order_read = ap (λ (c : NodeCommand). record { command = c; fresh = fresh_for c fresh; caller = caller }) (told_back (command_in (drop 8 bytes)))

  -- the ground that the rules have
  abbrev pub result : ℕ
  result = first_of (order_rules (tree_in image) (order_in asked))

  pub by_ground : eqb (get_or image attestation_at 0) 1 ≡ true → well_formed node_count (tree_in image) ≡ true
      → screened_opened invoke_dpe image asked ≡ ruled_work image (cond (eqb result 0) (served invoke_dpe asked) (declined result))
  unfolding screened_opened view_in
  by_ground on formed = rw (on, formed) (ap (ruled_work image) (order_decided (tree_in image) (order_in asked) declined (served invoke_dpe asked)))

  -- of an order that was read there
  module _ (o : read.Order) (e : o ≡ order_told (command_in (drop 8 bytes))) where
    pub ground_found : (r : ℕ) → r ≡ ground_of image o fresh caller → r ≡ result
    ground_found r h = h ∙ ap (λ (x : read.Order). ground_of image x fresh caller) e ∙ ground_told image (command_in (drop 8 bytes)) fresh caller

    pub work_found : (a : List ℕ) (x : Work) → x ≡ work_at image (invoke (order_of o fresh caller)) a
        → x ≡ work_at image (invoke (order_in asked)) a
    work_found a x h =
        h
        ∙ ap (λ (y : Order). work_at image (invoke y) a)
        (ap (λ (y : read.Order). order_of y fresh caller) e ∙ order_read)
