-- The grounds on which a tree command or a stash is declined (document 02, §5), as one table of cards: a row for each, and a row for each two neighbours
-- that can apply together. Demand 3 cannot tell a wrong ground, since the ledger uses the same rules. Nothing rests on the table. Assumes nothing.
use Rattle.std.specs.Prelude.{ℕ, ◌≡◌, Bool, true, false, cond, List, [], ◌∷◌, eqb, get_or, replicate}
use Rattle.std.proofs.Math.Option.{Option, none, some}
use Rattle.layout.specs.Sizes.{node_count, root_mark, internal_flag, root_type}
use Rattle.layout.specs.Words.{zeros}
use Rattle.layout.specs.declared.refusals.Refusal.TheVariants.{NotWellFormed}
use Rattle.tree.specs.Tree.{Place, free_place, Tree, freed_by}
use Rattle.nodes.specs.Record.{default_handle, retired_handle, handle_row}
use Rattle.opening.specs.Orders.{NodeCommand, derive, extend, rotate, destroy, malformed}
use Rattle.opening.specs.Rules.{Verdict, refuse, decline, Rule, stash_rules, invoke_rules}

-- the first rule that applies
abbrev pub verdict_of : List Rule → Option Verdict
verdict_of [] = none
verdict_of (r ∷ rs) = cond r.applies (some r.verdict) (verdict_of rs)

-- ---- small trees

abbrev place : ℕ → List ℕ → ℕ → ℕ → ℕ → Place
place parent handle flags type locality =
    record { used = true; blank = false; parent = parent; handle = handle_row handle; flags = flags; type = type; locality = locality }

abbrev root : List ℕ → Place
root handle = place root_mark handle internal_flag root_type 0

-- a node of caller 5 below another
abbrev below : ℕ → List ℕ → Place
below parent handle = place parent handle 0 7 5

-- a handle of 20 bytes that begins with k
abbrev handle : ℕ → List ℕ
handle k = k ∷ replicate 19 0

abbrev places : List Place → Tree
places ps = λ i. get_or ps i free_place

-- the root alone; the root, node 1 below it and node 2 below that; the same with the handle of node 1 twice; two nodes with one handle, and none with the
-- default one; every node used; a root with a live handle that is not the default one
unfoldable pub fresh : Tree
fresh = places (root default_handle ∷ [])

unfoldable pub two : Tree
two = places (root default_handle ∷ below 0 (handle 1) ∷ below 1 (handle 2) ∷ [])

unfoldable pub twice : Tree
twice = places (root default_handle ∷ below 0 (handle 1) ∷ below 1 (handle 1) ∷ [])

unfoldable pub twice_renamed : Tree
twice_renamed = places (root (handle 1) ∷ below 0 (handle 1) ∷ [])

unfoldable pub full : Tree
full = λ i. cond (eqb i 0) (root default_handle) (below 0 retired_handle)

unfoldable pub renamed : Tree
renamed = places (root (handle 1) ∷ [])

-- full, and no node with the default handle
unfoldable pub full_renamed : Tree
full_renamed = λ i. cond (eqb i 0) (root (handle 1)) (below 0 retired_handle)

-- a chain of two stashes below the root, and what is left of it when its end is destroyed
unfoldable pub chain : Tree
chain = places (root retired_handle ∷ below 0 retired_handle ∷ below 1 default_handle ∷ [])

unfoldable pub chain_gone : Tree
chain_gone = places (root retired_handle ∷ [])

-- ---- what is asked of them

abbrev digest : List ℕ
digest = zeros 48

abbrev asked : Bool → Tree → NodeCommand → List ℕ → ℕ → Option Verdict
asked on t c lent caller =
    verdict_of (invoke_rules (record { done = true; on = on; nodes = t }) (record { command = c; fresh = lent; caller = caller }))

abbrev stashed : Bool → Tree → Option Verdict
stashed on t = verdict_of (stash_rules (record { done = true; on = on; nodes = t }) (record { type = 7; digest = digest; svn = 1; caller = 5 }))

pub record GroundCards : Type 0 where
  -- 2 off, before refusal 11 and before 5
  pub off : asked false two (extend (handle 1) digest) [] 5 ≡ some (decline 2)
  pub off_formed : asked false twice (extend (handle 1) digest) [] 5 ≡ some (decline 2)
  pub off_malformed : asked false two malformed [] 5 ≡ some (decline 2)
  -- refusal 11, before 5
  pub formed : asked true twice (extend (handle 1) digest) [] 5 ≡ some (refuse NotWellFormed)
  pub formed_malformed : asked true twice malformed [] 5 ≡ some (refuse NotWellFormed)
  -- 5 data malformed, a retain above 1 too; before 6
  pub malformed_data : asked true two malformed [] 5 ≡ some (decline 5)
  pub retain_2 : asked true two (derive (handle 1) 2 7 digest) (handle 3) 5 ≡ some (decline 5)
  pub malformed_handle : asked true two (derive (handle 9) 2 7 digest) (handle 3) 5 ≡ some (decline 5)
  -- 6 handle retired, or held by no node; before 7 and 8
  pub retired : asked true full (extend retired_handle digest) [] 5 ≡ some (decline 6)
  pub unheld : asked true two (extend (handle 9) digest) [] 5 ≡ some (decline 6)
  pub unheld_free : asked true fresh (rotate (handle 9)) (handle 3) 0 ≡ some (decline 6)
  pub unheld_fresh : asked true two (rotate (handle 9)) [] 5 ≡ some (decline 6)
  -- 7 another caller; before 8 and 9
  pub caller : asked true two (extend (handle 1) digest) [] 6 ≡ some (decline 7)
  pub caller_fresh : asked true two (rotate (handle 1)) [] 6 ≡ some (decline 7)
  pub caller_root : asked true two (extend default_handle digest) [] 5 ≡ some (decline 7)
  -- 8 a fresh handle of another length, zero, all 0xFF, or in use; before 1
  pub short : asked true two (rotate (handle 1)) (zeros 19) 5 ≡ some (decline 8)
  pub default : asked true two (rotate (handle 1)) default_handle 5 ≡ some (decline 8)
  pub all_ones : asked true two (derive (handle 1) 1 7 digest) retired_handle 5 ≡ some (decline 8)
  pub in_use : asked true two (derive (handle 1) 0 7 digest) (handle 2) 5 ≡ some (decline 8)
  pub own : asked true two (rotate (handle 1)) (handle 1) 5 ≡ some (decline 8)
  pub fresh_full : asked true full (derive default_handle 1 7 digest) [] 0 ≡ some (decline 8)
  -- 1 no free node, derive only
  pub no_room : asked true full (derive default_handle 1 7 digest) (handle 3) 0 ≡ some (decline 1)
  pub rotated : asked true full (rotate default_handle) (handle 3) 0 ≡ none
  -- 9 the root, extend and destroy only; before 10
  pub root_extended : asked true two (extend default_handle digest) [] 0 ≡ some (decline 9)
  pub root_alone : asked true fresh (destroy default_handle) [] 0 ≡ some (decline 9)
  pub root_children : asked true two (destroy default_handle) [] 0 ≡ some (decline 9)
  pub root_derived : asked true fresh (derive default_handle 0 7 digest) (handle 3) 0 ≡ none
  -- 10 children, destroy only
  pub children : asked true two (destroy (handle 1)) [] 5 ≡ some (decline 10)
  pub extended : asked true two (extend (handle 1) digest) [] 5 ≡ none
  pub childless : asked true two (destroy (handle 2)) [] 5 ≡ none
  -- a stash: 2, 11, "3, right after 11", 1
  pub stash_off : stashed false twice ≡ some (decline 2)
  pub stash_formed : stashed true twice ≡ some (refuse NotWellFormed)
  pub stash_formed_holder : stashed true twice_renamed ≡ some (refuse NotWellFormed)
  pub no_holder : stashed true renamed ≡ some (decline 3)
  pub no_holder_full : stashed true full_renamed ≡ some (decline 3)
  pub stash_full : stashed true full ≡ some (decline 1)
  pub stash_served : stashed true two ≡ none
  -- what may surprise: the end of a chain of stashes takes the whole chain with it, and then no stash and no tree command is served; a rotated default
  -- handle leaves no stash
  pub whole_chain : freed_by node_count chain 2 ≡ 2 ∷ 1 ∷ []
  pub chain_served : asked true chain (destroy default_handle) [] 5 ≡ none
  pub then_no_stash : stashed true chain_gone ≡ some (decline 3)
  pub then_no_command : asked true chain_gone (derive default_handle 1 7 digest) (handle 3) 0 ≡ some (decline 6)
  pub root_rotated : asked true fresh (rotate default_handle) (handle 1) 0 ≡ none
