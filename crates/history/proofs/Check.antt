-- Demand 3 is not empty: on any image, lists of calls whose last one ends an update boot, one whole, one after a torn work; and
-- one with an extension, one with a stash. Assumes nothing.
use mathlib.Core.Path.{◌≡◌, refl, sym, ap, ◌∙◌}
use Prim.Native.Nat.{ℕ, ◌+◌, ◌-◌, ◌*◌}
use mathlib.Core.Bool.{Bool, true, false, not, ◌&&◌}
use mathlib.Core.List.{List, [], ◌∷◌, ◌++◌, map}
use mathlib.Core.Option.{Option, none, some}
use native.Mathlib.Omega.{arith}
use lib.Dec.{eqb}
use lib.ListN.{length, get_or, set, take, drop, replicate}
use lib.Seq.{get_or-drop}
use Rattle.layout.specs.Sizes.{image_words, attestation_at, registers_at, register_count, register_words, current_register, journey_register, extend_first, extendable, node_count, nodes_at, node_words, node_at, svn_at}
use Rattle.layout.specs.Words.{bytes4, words48, words_at, tab, zeros, flat}
use Rattle.layout.specs.Below.{all_below}
use Rattle.message.specs.Checksum.{checksum_of}
use Rattle.sha384.specs.Entries.{extended}
use Rattle.layout.proofs.Bounded.{first_on, first_here}
use Rattle.tree.specs.Tree.{default_words, same_handle, has_handle, well_formed, node_with, lowest_free}
use Rattle.tree.proofs.WellFormed.{Formed, default_live, formed_true, with_found}
use Rattle.nodes.specs.Record.{Node, node_row, place_row, retired_handle, with_handle, tree_of}
use Rattle.table.specs.Table.{number_of}
use Rattle.work.specs.Entries.{left_of}
use Rattle.table.specs.declared.Kind.TheVariants.{Disabling, Stash, Update, Extension}
use Rattle.opening.specs.Tasks.{Request, request_of, BootInputs, boot_of, Measurement, Task, stash, cold_boot}
use Rattle.opening.specs.Rules.{wrong_checksum, extend_code, stash_code, measurement_in, answer_of, inputs_ok}
use Rattle.opening.specs.Values.{extended_by_boot, stashed_node, root_node}
use Rattle.opening.specs.Openings.{open_cold_boot, boot_number}
use Rattle.history.specs.Calls.{Call, request, update_boot, store, power_cut, Hand, Machine, Step, step, run}
use Rattle.history.specs.Ledger.{Job, Ledger, changed, next_chain, kind_at, state_of, chain_of, node_rows, view_of, tears, let_go, ledger_step, first_ledger}
use Rattle.history.specs.Demand.{Shut, was_accepted, boot_ended, ends_boot, after_cold_boot}
use Rattle.history.proofs.Good.{formed_cold}
use Rattle.history.proofs.Ground.{is_boot}
use Rattle.history.proofs.Sim.{Inv, empty, done, going, Together, carried_left, sim, sim_run}
use Rattle.history.proofs.Demand.{cold_start, demand3}

-- ---- the premise, seen from the ledger

abbrev ledger_ended : Option Job → ℕ → Bool
ledger_ended none k = false
ledger_ended (some j) k = is_boot j.task && eqb (j.stores - k) 0

abbrev ledger_ends : Step Ledger → Bool
ledger_ends b = was_accepted b.result && ledger_ended b.state.hand b.state.made

ended_same : {l : List ℕ} {w : Option Hand} {h : List Task} {d : Option Job} {k : ℕ} {t u : Bool} → Inv l w h d k t u → boot_ended w ≡ ledger_ended d k
ended_same (empty g) = refl
ended_same (done {p = p} {j = j} {k} g e c b) =
    let z : left_of p.work ≡ j.stores - k = carried_left p.work j k c (omega arith) in
    λ i. b i && eqb (z i) 0
ended_same (going {p = p} {j = j} {k} base v g f w n q x y b) =
    let z : left_of p.work ≡ j.stores - k = carried_left p.work j k w.carried (omega arith) in
    λ i. b i && eqb (z i) 0

ends_same : (m : Step Machine) (b : Step Ledger) → Together m b → ends_boot m ≡ ledger_ends b
ends_same m b x = λ i. was_accepted (x.result i) && ended_same x.related i

-- ---- concrete inputs: document 01's program

pub inputs : BootInputs
inputs = boot_of (replicate 48 0x11) (replicate 48 0x33) (replicate 48 0x22)

cold_opens : (before : List ℕ) → length before ≡ image_words → boot_number (open_cold_boot before inputs).status ≡ 0
unfolding open_cold_boot inputs_ok all_below inputs
cold_opens before e = rw e

-- an update that runs to its end, but for the last store
pub whole_calls : List Call
whole_calls = update_boot inputs true ∷ replicate (number_of (Update 0) - 1) store

-- an update that is cut after its first store; then a boot, but for its last store
pub torn_calls : List Call
torn_calls = update_boot inputs true ∷ store ∷ power_cut ∷ update_boot inputs true ∷ replicate (number_of Disabling - 1) store

-- PCR4 extended by 48 bytes 0x44, to its end
pub digest : List ℕ
digest = replicate 48 0x44

arguments : List ℕ
arguments = bytes4 extend_first ++ digest

pub extension_calls : List Call
extension_calls =
    request (request_of extend_code (bytes4 (checksum_of extend_code arguments) ++ arguments) 0 [] false []) ∷ replicate (number_of (Extension extend_first)) store

-- a measurement of type "HOUR" and svn 0x04030201, stashed to its end
pub svn : ℕ
svn = 0x04030201

stash_arguments : List ℕ
stash_arguments = bytes4 0x52554F48 ++ (digest ++ bytes4 svn)

stash_request : Request
stash_request = request_of stash_code (bytes4 (checksum_of stash_code stash_arguments) ++ stash_arguments) 5 [] false []

pub stash_calls : List Call
stash_calls = request stash_request ∷ replicate (number_of (Stash (record { node = 1; holder = 0 }))) store

-- the registers that a cold boot leaves
pub cold_registers : List (List ℕ)
cold_registers =
    set (set (replicate register_count (zeros 48)) current_register (extended_by_boot (zeros 48) inputs)) journey_register (extended_by_boot (zeros 48) inputs)

-- ---- that stash in the ledger, by the laws of the tree: no place is gone through one by one

cold_nodes : List (Option Node)
cold_nodes = set (replicate node_count none) 0 (some (root_node (extended_by_boot (zeros 48) inputs)))

cold_formed : Formed node_count (tree_of cold_nodes) 0
unfolding cold_nodes
cold_formed = formed_cold node_count (omega arith) (extended_by_boot (zeros 48) inputs)

cold_well : well_formed node_count (tree_of cold_nodes) ≡ true
cold_well = formed_true node_count (omega arith) (tree_of cold_nodes) 0 cold_formed

cold_holder : node_with node_count (tree_of cold_nodes) default_words ≡ 0
unfolding has_handle same_handle all_below cold_nodes words_at tab
cold_holder = with_found node_count (tree_of cold_nodes) 0 cold_formed default_words default_live 0 (omega arith) refl

cold_free : lowest_free node_count (tree_of cold_nodes) ≡ 1
unfolding lowest_free cold_nodes
cold_free =
    first_on (λ i. not (tree_of cold_nodes i).used) node_count 0 (omega arith) refl ∙ first_here (λ i. not (tree_of cold_nodes i).used) node_count 1 (omega arith) refl

measured : Measurement
measured = measurement_in stash_request

stash_job : Job
stash_job = record { task = stash measured; stores = number_of (Stash (record { node = 1; holder = 0 })); answer = answer_of (bytes4 0) }

stash_opened : (ledger_step (first_ledger inputs) (request stash_request)).state
    ≡ record { history = cold_boot inputs ∷ []; hand = some stash_job; made = 0; torn = false; unfinished = false }
unfolding ledger_step let_go view_of state_of next_chain wrong_checksum checksum_of inputs digest stash_arguments stash_request svn number_of cold_nodes measured stash_job kind_at
stash_opened = rw (cold_well, cold_free, cold_holder)

stash_counts : run ledger_step (first_ledger inputs) stash_calls
    ≡ record { history = cold_boot inputs ∷ stash measured ∷ []; hand = some stash_job; made = stash_job.stores; torn = false; unfinished = false }
unfolding ledger_step stash_calls stash_job number_of kind_at
stash_counts = ap (λ (b : Ledger). run ledger_step b (replicate (number_of (Stash (record { node = 1; holder = 0 }))) store)) stash_opened

stashed_nodes : List (Option Node)
stashed_nodes = set (set cold_nodes 1 (some (stashed_node 0 measured))) 0 (changed (with_handle retired_handle) (get_or cold_nodes 0 none))

stashed_nodes_law : (state_of (cold_boot inputs ∷ stash measured ∷ [])).chain.nodes ≡ stashed_nodes
unfolding state_of next_chain cold_nodes stashed_nodes
stashed_nodes_law = rw (cold_free, cold_holder)

module _ (before : List ℕ) (e : length before ≡ image_words) where
  ends : (calls : List Call) (c : Call) → ledger_ends (ledger_step (run ledger_step (first_ledger inputs) calls) c) ≡ true
      → ends_boot (step (run step (after_cold_boot before inputs) calls) c) ≡ true
  ends calls c q =
      ends_same (step (run step (after_cold_boot before inputs) calls) c) (ledger_step (run ledger_step (first_ledger inputs) calls) c)
      (sim (run step (after_cold_boot before inputs) calls) (run ledger_step (first_ledger inputs) calls) c
      (sim_run calls (after_cold_boot before inputs) (first_ledger inputs) (cold_start before inputs (cold_opens before e))))
      ∙ q

  -- a boot that is kept ends at its opening
  pub kept_ends : ends_boot (step (run step (after_cold_boot before inputs) []) (update_boot inputs false)) ≡ true
  unfolding ledger_step let_go inputs_ok all_below inputs number_of kind_at
  kept_ends = ends [] (update_boot inputs false) refl

  pub whole_ends : ends_boot (step (run step (after_cold_boot before inputs) whole_calls) store) ≡ true
  unfolding ledger_step let_go inputs_ok all_below inputs whole_calls number_of kind_at
  whole_ends = ends whole_calls store refl

  pub torn_ends : ends_boot (step (run step (after_cold_boot before inputs) torn_calls) store) ≡ true
  unfolding ledger_step let_go inputs_ok all_below inputs torn_calls number_of kind_at
  torn_ends = ends torn_calls store refl

  -- what demand 3 says there: attestation is on after the one, and shut for good after the other
  pub whole_on : get_or (step (run step (after_cold_boot before inputs) whole_calls) store).state.image attestation_at 0 ≡ 1
  unfolding ledger_step let_go inputs_ok all_below inputs whole_calls number_of kind_at
  whole_on = (((demand3 before inputs (cold_opens before e) whole_calls).kept store whole_ends).on refl).1 refl

  pub torn_shut : (later : List Call) → Shut (run step (step (run step (after_cold_boot before inputs) torn_calls) store).state later).image
  unfolding ledger_step let_go inputs_ok all_below inputs torn_calls number_of kind_at
  torn_shut later = (demand3 before inputs (cold_opens before e) torn_calls).shut store torn_ends refl later

  -- and that an extension is in its register, and in no other
  pub extension_counts : take (register_count * register_words) (drop registers_at (run step (after_cold_boot before inputs) extension_calls).image)
      ≡ flat (map words48 (set cold_registers extend_first (extended (zeros 48) digest)))
  unfolding ledger_step let_go view_of state_of next_chain wrong_checksum checksum_of extendable inputs_ok all_below inputs digest arguments extension_calls cold_registers number_of kind_at
  extension_counts = ((demand3 before inputs (cold_opens before e) extension_calls).counted refl refl).registers

  -- and that a stash's svn is word 34 of its node, and the root's is 0
  pub svn_counts : (get_or (run step (after_cold_boot before inputs) stash_calls).image (node_at 1 + svn_at) 0 ≡ svn)
      × (get_or (run step (after_cold_boot before inputs) stash_calls).image (node_at 0 + svn_at) 0 ≡ 0)
  unfolding cold_nodes stashed_nodes measured stash_job stash_request inputs digest stash_arguments svn checksum_of number_of node_row words_at tab zeros kind_at
  svn_counts = (at (node_words + svn_at), at svn_at)
    where
      image : List ℕ
      image = (run step (after_cold_boot before inputs) stash_calls).image

      at : (k : ℕ) → get_or image (nodes_at + k) 0 ≡ get_or (flat (map place_row stashed_nodes)) k 0
      at k =
          sym (get_or-drop nodes_at image k 0)
          ∙ ap (λ (l : List ℕ). get_or l k 0)
          (((demand3 before inputs (cold_opens before e) stash_calls).counted (ap (λ (b : Ledger). b.torn) stash_counts)
          (ap (λ (b : Ledger). tears b.hand b.made) stash_counts)).nodes
          ∙ ap (λ (b : Ledger). node_rows (chain_of b)) stash_counts
          ∙ ap (λ (l : List (Option Node)). flat (map place_row l)) stashed_nodes_law)
