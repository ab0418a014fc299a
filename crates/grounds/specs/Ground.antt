-- The dpe result by which a tree command is declined, "the first .. that applies" (document 02, §5). Assumes nothing.
use Rattle.std.specs.Prelude.{ℕ, cond, not, ◌||◌, List, [], ◌∷◌, eqb, leb, Result, Ok, Err}
use Rattle.layout.specs.Sizes.{node_count}
use Rattle.layout.specs.Numbers.{refusal_number}
use Rattle.layout.specs.Refusals as number
use Rattle.layout.specs.Refusals.{decline_number}
use Rattle.layout.specs.declared.refusals.Decline.{Decline}
use Rattle.tree.specs.Tree.{Tree, retired_words, same_handle, is_root, node_with, lowest_free, childless}
use Rattle.tree.specs.Nodes.{tree_in}
use Rattle.nodes.specs.Record.{handle_row}
use Rattle.opening.specs.Orders.{fresh_for, unfit}
use Rattle.opening.specs.Tasks.{Order}
use Rattle.opening.specs.Rules.{Verdict, refuse, decline, Rule, declines, order_rules}
use Rattle.orders.specs.declared.Order as told
use Rattle.orders.specs.Told.{command_from}

-- the code's enum, with the lent handle and the caller, as the rules' order; "the host lends a fresh one for 1 and 3"
abbrev pub order_of : told.Order → (fresh : List ℕ) (caller : ℕ) → Order
order_of o fresh caller = record { command = command_from o; fresh = fresh_for (command_from o) fresh; caller = caller }

-- the dpe result that the code's answer stands for: 0, or the decline's number, which is never 0 and belongs to that one decline
abbrev pub dpe_result : {A : Type 0} → Result A Decline → ℕ
dpe_result (Ok served) = number.dpe_accepted
dpe_result (Err d) = decline_number d

abbrev pub number_of : Verdict → ℕ
number_of (refuse r) = refusal_number r
number_of (decline n) = n

-- the number of the first rule that applies, 0 where none does
abbrev pub first_of : List Rule → ℕ
first_of [] = number.dpe_accepted
first_of (r ∷ rs) = cond r.applies (number_of r.verdict) (first_of rs)

unfoldable pub ground_of : (image : List ℕ) → told.Order → (fresh : List ℕ) (caller : ℕ) → ℕ
ground_of image o fresh caller = first_of (order_rules (tree_in image) (order_of o fresh caller))

-- ---- of the private functions

-- "6 handle retired or held by no node, 7 caller unlike the node's locality"
abbrev pub handle_declines : Tree → (handle : List ℕ) (caller : ℕ) → List Rule
handle_declines t handle caller =
    let i = node_with node_count t (handle_row handle) in
    declines number.dpe_no_handle (same_handle (handle_row handle) retired_words || leb node_count i)
    ∷ declines number.dpe_caller (not (eqb (t i).locality caller)) ∷ []

-- and behind these what each command has, at node i
abbrev pub derive_declines : Tree → (fresh : List ℕ) → List Rule
derive_declines t fresh = declines number.dpe_fresh (unfit t fresh) ∷ declines number.dpe_full (leb node_count (lowest_free node_count t)) ∷ []

abbrev pub extend_declines : Tree → (i : ℕ) → List Rule
extend_declines t i = declines number.dpe_root (is_root (t i)) ∷ []

abbrev pub rotate_declines : Tree → (fresh : List ℕ) → List Rule
rotate_declines t fresh = declines number.dpe_fresh (unfit t fresh) ∷ []

abbrev pub destroy_declines : Tree → (i : ℕ) → List Rule
destroy_declines t i = declines number.dpe_root (is_root (t i)) ∷ declines number.dpe_children (not (childless node_count t i)) ∷ []
