-- The ledger: document 01's "book". It is fed the cold boot's inputs, then each call with its arguments other than the image and the work, and each
-- cut; it reads no image and replays no store. Assumes nothing.
use Rattle.std.specs.Prelude.{ℕ, zero, suc, ◌-◌, Bool, true, false, cond, not, ◌&&◌, ◌||◌, eqb, ltb, length, get_or, set, replicate, drop}
use mathlib.Core.List.{List, [], ◌∷◌, ◌++◌, foldl, map}
use Rattle.std.proofs.Math.Option.{Option, none, some}
use Rattle.layout.specs.Sizes.{node_count, register_count, current_register, journey_register, stash_register}
use Rattle.layout.specs.Words.{words48, zeros, flat}
use Rattle.layout.specs.Below.{count_below}
use Rattle.layout.specs.Numbers.{refusal_number}
use Rattle.layout.specs.declared.refusals.Refusal.TheVariants.{NoStoreLeft, StoresLeft, ShortBuffer, ShortEntry}
use Rattle.sha384.specs.Entries.{extended}
use Rattle.tree.specs.Tree.{Tree, default_words, retired_words, has_handle, is_root, root_in, node_with, lowest_free, childless}
use Rattle.nodes.specs.Record.{Node, retired_handle, place_row, with_handle, with_current, with_cumulative, tree_of}
use Rattle.table.specs.Table.{number_of}
use Rattle.table.specs.declared.Kind.{Kind}
use Rattle.table.specs.declared.Kind.TheVariants.{Destroy}
use Rattle.opening.specs.Orders.{NodeCommand, derive, extend, rotate, destroy, malformed, named_in}
use Rattle.opening.specs.Values.{extended_by_boot, stashed_node, derived_node, root_node}
use Rattle.opening.specs.Tasks.{BootInputs, Task, no_stores, kept_boot, disable_command, disabling_boot, stash, update, cold_boot, extension, invoke, Ruling, refused, accepted, View}
use Rattle.opening.specs.Rules.{command_of, ruled, request_rules, boot_rules, boot_ruling, update_task}
use Rattle.opening.specs.Works.{facts_of}
use Rattle.opening.specs.Recorded.{entry_for}
use Rattle.journal.specs.Entries.{journal_bytes}
use Rattle.opening.specs.Openings.{outcome_of, outcome_number}
use Rattle.opening.specs.declared.Outcome.{Outcome}
use Rattle.history.specs.Calls.{Call, request, update_boot, store, answer, entry, power_cut, Result, refusal, opened, booted, stored, answered, recorded, no_work, cut_off, Step}

-- ---- registers and chain of a history: demand 2's definitions, applied in order

-- registers are byte strings of 48; a place for a node is free or holds one
pub record Chain : Type 0 where
  pub registers : List (List ℕ)
  pub nodes : List (Option Node)

pub record Contents : Type 0 where
  pub secret : List ℕ
  pub chain : Chain

-- the nodes as a tree
abbrev pub tree_at : Chain → Tree
tree_at x = tree_of x.nodes

-- a used place with its node changed
abbrev pub changed : (Node → Node) → Option Node → Option Node
changed f none = none
changed f (some n) = some (f n)

-- an update's root, and an extend's node (document 02, §5): current becomes the digest, and the cumulative is extended by it
abbrev pub renewed : List ℕ → Node → Node
renewed digest n = with_cumulative (extended n.cumulative digest) (with_current digest n)

-- the node at index i changed
abbrev pub changed_at : (Node → Node) → List (Option Node) → ℕ → List (Option Node)
changed_at f ns i = set ns i (changed f (get_or ns i none))

-- ---- a tree command's effect on the nodes (document 02, §5)

-- a new node at the lowest free index
abbrev pub grown : List (Option Node) → Node → List (Option Node)
grown ns child = set ns (lowest_free node_count (tree_of ns)) (some child)

-- "any retired ancestor left childless except the root", in the nodes as they now stand
unfoldable pub left_behind : List (Option Node) → ℕ → Bool
left_behind ns p = has_handle retired_words (tree_of ns p) && (not (is_root (tree_of ns p)) && childless node_count (tree_of ns) p)

-- node i is freed; then its parent if it is left behind, and so on upwards, at most s nodes
unfoldable pub freed_from : ℕ → List (Option Node) → ℕ → List (Option Node)
freed_from zero ns i = ns
freed_from (suc s) ns i =
    let after = set ns i none in
    let parent = (tree_of ns i).parent in
    cond (left_behind after parent) (freed_from s after parent) after

unfoldable pub next_nodes : List (Option Node) → NodeCommand → (fresh : List ℕ) → ℕ → List (Option Node)
-- "A child goes below the handle's node"; "without retain the parent is retired"
next_nodes ns (derive handle retain type digest) fresh caller =
    let parent = named_in (tree_of ns) (derive handle retain type digest) in
    let after = grown ns (derived_node parent fresh type digest caller) in
    cond (eqb retain 0) (set after parent (changed (with_handle retired_handle) (get_or ns parent none))) after
-- "Extend sets current and extends cumulative."
next_nodes ns (extend handle digest) fresh caller = changed_at (renewed digest) ns (named_in (tree_of ns) (extend handle digest))
next_nodes ns (rotate handle) fresh caller = changed_at (with_handle fresh) ns (named_in (tree_of ns) (rotate handle))
next_nodes ns (destroy handle) fresh caller = freed_from node_count ns (named_in (tree_of ns) (destroy handle))
next_nodes ns malformed fresh caller = ns

-- ---- registers and nodes

-- register i extended by a digest
abbrev pub extended_at : List (List ℕ) → ℕ → List ℕ → List (List ℕ)
extended_at registers i d = set registers i (extended (get_or registers i []) d)

-- what one counted work makes of registers and nodes
unfoldable pub next_chain : Chain → Task → Chain
next_chain x no_stores = x
next_chain x kept_boot = x
next_chain x disable_command = x
next_chain x disabling_boot = x
-- stash: PCR31, a new node at the lowest free index, and "the old holder is retired"
next_chain x (stash m) =
    let holder = node_with node_count (tree_at x) default_words in
    record {
      registers = extended_at x.registers stash_register m.digest;
      nodes = set (grown x.nodes (stashed_node holder m)) holder (changed (with_handle retired_handle) (get_or x.nodes holder none));
    }
-- update: PCR2 begins anew, PCR3 goes on, and the root is renewed
next_chain x (update b) =
    let journey = extended_by_boot (get_or x.registers journey_register []) b in
    let root = root_in node_count (tree_at x) in
    record {
      registers = set (set x.registers current_register (extended_by_boot (zeros 48) b)) journey_register journey;
      nodes = changed_at (renewed journey) x.nodes root;
    }
-- cold boot: PCR2 and PCR3 measured from zero, every other register zero; the root is node 0 and the only node
next_chain x (cold_boot b) =
    let journey = extended_by_boot (zeros 48) b in
    record {
      registers = set (set (replicate register_count (zeros 48)) current_register journey) journey_register journey;
      nodes = set (replicate node_count none) 0 (some (root_node journey));
    }
-- extension: its register, and nothing else (document 02, §1)
next_chain x (extension e) = record { registers = extended_at x.registers e.register e.digest; nodes = x.nodes }
-- a tree command: "PCR31 stays", and so does every other register
next_chain x (invoke o) = record { registers = x.registers; nodes = next_nodes x.nodes o.command o.fresh o.caller }

-- and of the secret
abbrev pub next : Contents → Task → Contents
next x t = record { secret = (facts_of t).secret x.secret; chain = next_chain x.chain t }

-- before the cold boot, which replaces all of it
abbrev pub blank : Contents
blank = record { secret = []; chain = record { registers = []; nodes = [] } }

unfoldable pub state_of : List Task → Contents
state_of history = foldl next blank history

-- ---- the one encoding to words

abbrev pub register_rows : Chain → List ℕ
register_rows x = flat (map words48 x.registers)

abbrev pub node_rows : Chain → List ℕ
node_rows x = flat (map place_row x.nodes)

-- mark, attestation, two zero words, secret, registers, nodes
unfoldable pub image_of : ℕ → ℕ → Contents → List ℕ
image_of mark attestation x = (mark ∷ attestation ∷ 0 ∷ 0 ∷ words48 x.secret) ++ (register_rows x.chain ++ node_rows x.chain)

-- ---- the ledger

-- a work in hand: its task, the number of its stores at its opening, and its answer
pub record Job : Type 0 where
  pub task : Task
  pub stores : ℕ
  pub answer : List ℕ

-- document 01's book: the counted works with their inputs, the cold boot first; the work in hand and how many of its stores are made; whether one was
-- ever torn; whether one is begun and not ended
pub record Ledger : Type 0 where
  pub history : List Task
  pub hand : Option Job
  pub made : ℕ
  pub torn : Bool
  pub unfinished : Bool

abbrev pub any : (Task → Bool) → List Task → Bool
any f [] = false
any f (t ∷ ts) = f t || any f ts

abbrev pub disables : Task → Bool
disables t = (facts_of t).disables

abbrev pub is_none : Option Outcome → Bool
is_none none = true
is_none (some o) = false

-- a disable command, and not a boot's disabling
abbrev pub is_disable_command : Task → Bool
is_disable_command t = (facts_of t).disables && is_none (facts_of t).boot

-- "It is off if one was torn or a disabling counted."
abbrev pub is_off : List Task → Bool → Bool
is_off history torn = torn || any disables history

abbrev pub chain_of : Ledger → Chain
chain_of b = (state_of b.history).chain

-- what the rules see of the ledger, in the place of an image
unfoldable pub view_of : List Task → Bool → Bool → View
view_of history torn unfinished = record { done = not unfinished; on = not (is_off history torn); nodes = tree_at (state_of history).chain }

-- document 01's "torn": a work that goes when some of its stores are made and some are left
abbrev pub tears : Option Job → ℕ → Bool
tears none made = false
tears (some j) made = ltb 0 made && ltb made j.stores

-- the work in hand goes
unfoldable pub let_go : Ledger → Ledger
let_go b = record { history = b.history; hand = none; made = 0; torn = b.torn || tears b.hand b.made; unfinished = b.unfinished }

-- how many nodes are used
abbrev pub used_in : List (Option Node) → ℕ
used_in ns = count_below node_count (λ i. (tree_of ns i).used)

-- the kind of work that a task is at a chain; of a destroy the number of its nodes is the ledger's own: those that are used no more
unfoldable pub kind_at : Chain → Task → Kind
kind_at x t = cond (facts_of t).frees (Destroy (used_in x.nodes - used_in (next_chain x t).nodes)) ((facts_of t).kind (tree_at x))

-- a task with its answer, opened at a chain
abbrev pub job_at : Chain → Task → List ℕ → Job
job_at x t a = record { task = t; stores = number_of (kind_at x t); answer = a }

-- a new work "becomes the one in hand"
abbrev pub take_up : Ledger → Job → Ledger
take_up b j = record { history = b.history; hand = some j; made = 0; torn = b.torn; unfinished = b.unfinished }

abbrev pub ledger_request : Ledger → Ruling → Step Ledger
ledger_request b (refused r) = record { state = b; result = refusal (refusal_number r) }
ledger_request b (accepted t a) =
    let j = job_at (chain_of b) t a in
    record { state = take_up (let_go b) j; result = opened (kind_at (chain_of b) t) j.stores a }

abbrev pub ledger_boot : Ledger → Ruling → Step Ledger
ledger_boot b (refused r) = record { state = b; result = refusal (refusal_number r) }
ledger_boot b (accepted t a) =
    let j = job_at (chain_of b) t a in
    record {
      state = take_up (let_go b) j;
      result = booted (outcome_number (outcome_of (facts_of t).boot)) (kind_at (chain_of b) t) j.stores;
    }

-- an update boot: the work in hand goes first, so a torn one makes it a disabling; else ROM's verdict decides
abbrev pub update_ruling : Ledger → BootInputs → Bool → Ruling
update_ruling b x verdict = let after = let_go b in boot_ruling (boot_rules x) (update_task (not (is_off after.history after.torn)) verdict x)

-- a store: refused if none is left; the ledger is unfinished from the first to the last, which adds the work to the history
abbrev pub ledger_store : Ledger → Option Job → Step Ledger
ledger_store b none = record { state = b; result = no_work }
ledger_store b (some j) =
    cond (ltb b.made j.stores)
    (cond (eqb (suc b.made) j.stores)
    (record {
      state = record { history = b.history ++ (j.task ∷ []); hand = some j; made = suc b.made; torn = b.torn; unfinished = false };
      result = stored 0;
    })
    (record {
      state = record { history = b.history; hand = some j; made = suc b.made; torn = b.torn; unfinished = true };
      result = stored (j.stores - suc b.made);
    }))
    (record { state = b; result = refusal (refusal_number NoStoreLeft) })

-- "The answer may be taken only after the last store": 7, or 8 where the buffer is too short, or the answer at its front
abbrev pub ledger_answer : Option Job → ℕ → List ℕ → Result
ledger_answer none made buffer = no_work
ledger_answer (some j) made buffer =
    cond (ltb made j.stores) (answered (refusal_number StoresLeft) 0 buffer)
    (cond (ltb (length buffer) (length j.answer)) (answered (refusal_number ShortBuffer) 0 buffer)
    (answered 0 (length j.answer) (j.answer ++ drop (length j.answer) buffer)))

-- a journal entry is "taken as its answer is": 7, or 23 where the buffer is too short, or the task's entry at its front; "no stores, no bytes"
abbrev pub ledger_entry : Option Job → ℕ → List ℕ → Result
ledger_entry none made buffer = no_work
ledger_entry (some j) made buffer =
    let bytes = journal_bytes (entry_for j.task) in
    cond (ltb made j.stores) (recorded (refusal_number StoresLeft) 0 buffer)
    (cond (ltb (length buffer) (length bytes)) (recorded (refusal_number ShortEntry) 0 buffer)
    (recorded 0 (length bytes) (bytes ++ drop (length bytes) buffer)))

-- one call; "Refused calls change nothing."
unfoldable pub ledger_step : Ledger → Call → Step Ledger
ledger_step b (request r) = ledger_request b (ruled (request_rules (view_of b.history b.torn b.unfinished) r) (command_of r.code) r)
ledger_step b (update_boot x verdict) = ledger_boot b (update_ruling b x verdict)
ledger_step b store = ledger_store b b.hand
ledger_step b (answer buffer) = record { state = b; result = ledger_answer b.hand b.made buffer }
ledger_step b (entry buffer) = record { state = b; result = ledger_entry b.hand b.made buffer }
ledger_step b power_cut = record { state = let_go b; result = cut_off }

-- after the cold boot's last store
abbrev pub first_ledger : BootInputs → Ledger
first_ledger x = record { history = cold_boot x ∷ []; hand = none; made = 0; torn = false; unfinished = false }
