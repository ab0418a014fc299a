-- What demand 3 needs of each kind of task, as one record of laws: the only place where the proof goes by the kind of work. Assumes nothing.
use mathlib.Core.Path.{◌≡◌, refl, ap, ◌∙◌}
use mathlib.Core.Logic.{◌≢◌}
use Prim.Native.Nat.{ℕ, ◌<◌}
use native.Mathlib.Nat.{not-suc-le-zero}
use native.Mathlib.Omega.{arith}
use mathlib.Core.Bool.{Bool, true, false, cond, true≢false, false≢true}
use mathlib.Core.List.{List, []}
use mathlib.Core.Option.{Option, none, some}
use lib.Dec.{ltb}
use borrow.Author.Tests.{ltb-true}
use Rattle.layout.specs.Sizes.{node_count, register_count, journey_register}
use Rattle.layout.proofs.Cases.{and_left, and_right}
use Rattle.layout.proofs.Extendable.{extendable_from, extendable_to}
use Rattle.sha384.proofs.Sizes.{measure_extended}
use Rattle.tree.specs.Tree.{default_words, node_with, lowest_free}
use Rattle.tree.specs.Nodes.{tree_in}
use Rattle.table.specs.Table.{number_of, index_ok}
use Rattle.table.specs.declared.Put.{Put}
use Rattle.work.proofs.Plans.{apply}
use Rattle.opening.specs.Orders.{NodeCommand, derive, extend, rotate, destroy, malformed}
use Rattle.opening.specs.Tasks.{Measurement, RegisterExtension, Task, no_stores, kept_boot, disable_command, disabling_boot, stash, update, cold_boot, extension, invoke}
use Rattle.command_laws.proofs.ByCommand.{Granted}
use Rattle.opening.specs.Works.{facts_of}
use Rattle.opening.specs.declared.Outcome.{Outcome}
use Rattle.opening.specs.declared.Outcome.TheVariants.{Cold, Kept, Updated, Disabled}
use Rattle.history.specs.Ledger.{Chain, Contents, tree_at, next_chain, next, kind_at, image_of, disables}
use Rattle.history.proofs.Good.{Good, good_tree, good_cold, good_register, good_stash, good_update}
use Rattle.history.proofs.Runs.{plan_at, off_plan, command_plan, boot_plan, run_off, run_stash, run_update, run_extension}
use Rattle.history.proofs.Orders.{good_derive, run_derive, good_extend, run_extend, good_rotate, run_rotate}
use Rattle.history.proofs.Freeing.{good_destroy, run_destroy, kind_destroy}

abbrev pub is_cold : Option Outcome → Bool
is_cold none = false
is_cold (some Cold) = true
is_cold (some Kept) = false
is_cold (some Updated) = false
is_cold (some Disabled) = false

-- what the rules have seen of the chain where a task is opened: its indices are fine there, whatever image has that chain's nodes, and no rule of a tree
-- command applies. No cold boot is opened in a list
pub record Allowed (x : Chain) (t : Task) : Type 0 where
  pub index : (image : List ℕ) → tree_in image ≡ tree_at x → index_ok ((facts_of t).kind (tree_at x)) ((facts_of t).values image).node ≡ true
  pub granted : Granted (tree_at x) t
  pub warm : is_cold (facts_of t).boot ≡ false

pub record Law (t : Task) : Type 0 where
  -- a good chain stays good
  pub keeps : (x : Chain) → Good x → Allowed x t → Good (next_chain x t)
  -- the ledger's kind of work is the one that is opened
  pub kind : (x : Chain) → Good x → Allowed x t → kind_at x t ≡ (facts_of t).kind (tree_at x)
  -- all its stores, on the image of a state, give the image of the next
  pub runs : (att : ℕ) (x : Contents) → Good x.chain → Allowed x.chain t
      → 0 < number_of ((facts_of t).kind (tree_at x.chain))
      → apply (plan_at (image_of 1 att x) t) (image_of 1 att x) ≡ image_of 1 (cond (disables t) 0 att) (next x t)
  -- a disabling is the same on every image
  pub off : disables t ≡ true → (l : List ℕ) → plan_at l t ≡ off_plan

-- an image of a good chain
module _ (x : Chain) (g : Good x) where
  some_image : List ℕ
  some_image = image_of 1 1 (record { secret = []; chain = x })

  its_tree : tree_in some_image ≡ tree_at x
  unfolding some_image
  its_tree = good_tree 1 1 (record { secret = []; chain = x }) g

-- a stash finds a holder and a free place
module _ (x : Chain) (g : Good x) (m : Measurement) (a : Allowed x (stash m)) where
  room : lowest_free node_count (tree_at x) < node_count
  unfolding index_ok
  room = ltb-true _ node_count (and_left (ltb (lowest_free node_count (tree_at x)) node_count) _ (a.index (some_image x g) (its_tree x g)))

  held : node_with node_count (tree_at x) default_words < node_count
  unfolding index_ok
  held = ltb-true _ node_count (and_right (ltb (lowest_free node_count (tree_at x)) node_count) _ (a.index (some_image x g) (its_tree x g)))

module _ (x : Chain) (g : Good x) (e : RegisterExtension) (a : Allowed x (extension e)) where
  -- an extension's register is one of the 32, and not PCR3
  within : e.register < register_count
  unfolding index_ok
  within = omega (arith, extendable_to e.register (a.index (some_image x g) (its_tree x g)))

  past : journey_register ≢ e.register
  unfolding index_ok
  past z = omega (arith, z, extendable_from e.register (a.index (some_image x g) (its_tree x g)))

-- a tree command
order_laws : (c : NodeCommand) (fresh : List ℕ) (caller : ℕ) → Law (invoke (record { command = c; fresh = fresh; caller = caller }))
unfolding kind_at number_of
order_laws (derive h r ty d) fresh caller =
    record {
      keeps = λ x g a. good_derive x g h r ty d fresh caller a.granted;
      kind = λ x g a. refl;
      runs = λ att x g a p. run_derive att x g h r ty d fresh caller a.granted;
      off = λ q. absurd (false≢true q);
    }
order_laws (extend h d) fresh caller =
    record {
      keeps = λ x g a. good_extend x g h d fresh caller a.granted;
      kind = λ x g a. refl;
      runs = λ att x g a p. run_extend att x g h d fresh caller a.granted;
      off = λ q. absurd (false≢true q);
    }
order_laws (rotate h) fresh caller =
    record {
      keeps = λ x g a. good_rotate x g h fresh caller a.granted;
      kind = λ x g a. refl;
      runs = λ att x g a p. run_rotate att x g h fresh caller a.granted;
      off = λ q. absurd (false≢true q);
    }
order_laws (destroy h) fresh caller =
    record {
      keeps = λ x g a. good_destroy x g h fresh caller a.granted;
      kind = λ x g a. kind_destroy x g h fresh caller a.granted;
      runs = λ att x g a p. run_destroy att x g h fresh caller a.granted;
      off = λ q. absurd (false≢true q);
    }
order_laws malformed fresh caller =
    record {
      keeps = λ x g a. absurd (true≢false a.granted.0);
      kind = λ x g a. refl;
      runs = λ att x g a p. absurd (not-suc-le-zero p);
      off = λ q. absurd (false≢true q);
    }

pub laws : (t : Task) → Law t
unfolding next_chain number_of kind_at
laws no_stores = record { keeps = λ x g a. g; kind = λ x g a. refl; runs = λ att x g a p. absurd (not-suc-le-zero p); off = λ e. absurd (false≢true e) }
laws kept_boot = record { keeps = λ x g a. g; kind = λ x g a. refl; runs = λ att x g a p. absurd (not-suc-le-zero p); off = λ e. absurd (false≢true e) }
laws disable_command =
    record {
      keeps = λ x g a. g;
      kind = λ x g a. refl;
      runs = λ att x g a p. ap (λ (ps : List Put). apply ps (image_of 1 att x)) (command_plan (image_of 1 att x)) ∙ run_off att x;
      off = λ e l. command_plan l;
    }
laws disabling_boot =
    record {
      keeps = λ x g a. g;
      kind = λ x g a. refl;
      runs = λ att x g a p. ap (λ (ps : List Put). apply ps (image_of 1 att x)) (boot_plan (image_of 1 att x)) ∙ run_off att x;
      off = λ e l. boot_plan l;
    }
laws (stash m) =
    record {
      keeps = λ x g a. good_stash x m g (held x g m a) (room x g m a);
      kind = λ x g a. refl;
      runs = λ att x g a p. run_stash att x g m (held x.chain g m a) (room x.chain g m a);
      off = λ e. absurd (false≢true e);
    }
laws (update b) =
    record {
      keeps = λ x g a. good_update x b g;
      kind = λ x g a. refl;
      runs = λ att x g a p. run_update att x g b;
      off = λ e. absurd (false≢true e);
    }
laws (cold_boot b) =
    record { keeps = λ x g a. good_cold x b; kind = λ x g a. refl; runs = λ att x g a p. absurd (true≢false a.warm); off = λ e. absurd (false≢true e) }
laws (extension e) =
    record {
      keeps = λ x g a. good_register x e.register _ (measure_extended _ _) (past x g e a) g;
      kind = λ x g a. refl;
      runs = λ att x g a p. run_extension att x g e (within x.chain g e a);
      off = λ q. absurd (false≢true q);
    }
laws (invoke o) = order_laws o.command o.fresh o.caller
