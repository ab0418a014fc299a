-- The store table (document 01, "Work, one word at a time"): for each kind of work, runs of stores in order. Assumes nothing.
use Rattle.std.specs.Option.{unwrap_or}
use Rattle.std.specs.Prelude.{ℕ, ◌+◌, ◌-◌, ◌*◌, ◌/◌, ◌%◌, Bool, true, cond, ◌&&◌, List, [], ◌∷◌, get_or, leb, ltb}
use Rattle.layout.specs.Sizes.{node_count, node_words, register_count, register_words, mark_at, attestation_at, secret_at, register_at, node_at, current_register, journey_register, stash_register, extendable, handle_at, handle_words, current_at, cumulative_at, retired_word}
use Rattle.layout.specs.Below.{all_below}
use Rattle.table.specs.declared.Kind.{Kind}
use Rattle.table.specs.declared.Kind.TheVariants.{Nothing, Disabling, Stash, Update, ColdBoot, Extension, Derive, Replace, Extend, Rotate, Destroy}
use Rattle.table.specs.declared.StashAt.{StashAt}
use Rattle.table.specs.declared.Put.{Put}
use Rattle.table.specs.declared.row.Row.{Row}

abbrev pub put : ℕ → ℕ → Put
put a v = record { address = a; value = v }

-- a run of stores: how many, and store i of them
pub record Run : Type 0 where
  pub count : ℕ
  pub store : ℕ → Put

-- one word
abbrev pub one : ℕ → ℕ → Run
one a v = record { count = 1; store = λ i. put a v }

-- one value, n times from word a on
abbrev pub fill : ℕ → ℕ → ℕ → Run
fill a n v = record { count = n; store = λ i. put (a + i) v }

-- the first n words of a list, from word a on ("each field's words rising")
abbrev pub copy : ℕ → ℕ → List ℕ → Run
copy a n l = record { count = n; store = λ i. put (a + i) (get_or l i 0) }

-- n words of a list from its word o on
abbrev pub copy_from : ℕ → ℕ → List ℕ → ℕ → Run
copy_from a n l o = record { count = n; store = λ i. put (a + i) (get_or l (o + i) 0) }

-- the row of a stash: the register, the new node, the old holder's handle
abbrev pub stash_runs : StashAt → List ℕ → List ℕ → List Run
stash_runs s register node =
    one mark_at 0
    ∷ copy (register_at stash_register) register_words register
    ∷ copy (node_at s.node) node_words node
    ∷ fill (node_at s.holder + handle_at) handle_words retired_word
    ∷ one mark_at 1
    ∷ []

-- the row of a disabling: off, and the secret erased
abbrev pub disabling_runs : List Run
disabling_runs = one mark_at 0 ∷ one attestation_at 0 ∷ fill secret_at register_words 0 ∷ one mark_at 1 ∷ []

-- the row of an update: both registers, the secret, the root's two measurements
abbrev pub update_runs : ℕ → List ℕ → List ℕ → List ℕ → List ℕ → List Run
update_runs root register journey node secret =
    one mark_at 0
    ∷ copy (register_at current_register) register_words register
    ∷ copy (register_at journey_register) register_words journey
    ∷ copy secret_at register_words secret
    ∷ copy_from (node_at root + current_at) register_words node current_at
    ∷ copy_from (node_at root + cumulative_at) register_words node cumulative_at
    ∷ one mark_at 1
    ∷ []

-- the row of a cold boot, which stores every word: on, two zero words, the secret, PCR2 and PCR3 among zero registers, the root, zero nodes
abbrev pub cold_runs : List ℕ → List ℕ → List ℕ → List ℕ → List Run
cold_runs register journey node secret =
    one mark_at 0
    ∷ one attestation_at 1
    ∷ fill 2 2 0
    ∷ copy secret_at register_words secret
    ∷ fill (register_at 0) (current_register * register_words) 0
    ∷ copy (register_at current_register) register_words register
    ∷ copy (register_at journey_register) register_words journey
    ∷ fill (register_at (journey_register + 1)) ((register_count - (journey_register + 1)) * register_words) 0
    ∷ copy (node_at 0) node_words node
    ∷ fill (node_at 1) ((node_count - 1) * node_words) 0
    ∷ one mark_at 1
    ∷ []

-- the row of an extension (document 02, §1): its register
abbrev pub extension_runs : ℕ → List ℕ → List Run
extension_runs r register = one mark_at 0 ∷ copy (register_at r) register_words register ∷ one mark_at 1 ∷ []

-- the rows of document 02, §5, that store words of one node: "derive the node", "extend current, cumulative", "rotate the handle words"
abbrev pub part_runs : ℕ → ℕ → ℕ → List ℕ → List Run
part_runs i from words node = one mark_at 0 ∷ copy_from (node_at i + from) words node from ∷ one mark_at 1 ∷ []

-- "derive the node, then without retain the parent's handle words"
abbrev pub replace_runs : StashAt → List ℕ → List Run
replace_runs s node =
    one mark_at 0 ∷ copy (node_at s.node) node_words node ∷ fill (node_at s.holder + handle_at) handle_words retired_word ∷ one mark_at 1 ∷ []

-- the first nodes of a list, one after another, all zero
abbrev pub clear : ℕ → List ℕ → Run
clear count freed = record { count = node_words * count; store = λ k. put (node_at (get_or freed (k / node_words) 0) + k % node_words) 0 }

-- "destroy the freed nodes, upwards"; more nodes than there are have no row
abbrev pub destroy_runs : ℕ → List ℕ → List Run
destroy_runs count freed = cond (leb count node_count) (one mark_at 0 ∷ clear count freed ∷ one mark_at 1 ∷ []) []

-- the row of a kind, with the prepared words: those of a destroy's node are the indices of the nodes that it frees
abbrev pub runs_for : Kind → List ℕ → List ℕ → List ℕ → List ℕ → List Run
runs_for Nothing register journey node secret = []
runs_for Disabling register journey node secret = disabling_runs
runs_for (Stash s) register journey node secret = stash_runs s register node
runs_for (Update root) register journey node secret = update_runs root register journey node secret
runs_for ColdBoot register journey node secret = cold_runs register journey node secret
runs_for (Extension r) register journey node secret = extension_runs r register
runs_for (Derive i) register journey node secret = part_runs i 0 node_words node
runs_for (Replace s) register journey node secret = replace_runs s node
runs_for (Extend i) register journey node secret = part_runs i current_at (2 * register_words) node
runs_for (Rotate i) register journey node secret = part_runs i handle_at handle_words node
runs_for (Destroy count) register journey node secret = destroy_runs count node

-- ---- number, address and value

abbrev pub total : List Run → ℕ
total [] = 0
total (r ∷ rs) = r.count + total rs

-- store k of the runs, where the first run's first store has the number n
abbrev pub put_from : ℕ → List Run → ℕ → Put
put_from n [] k = put 0 0
put_from n (r ∷ rs) k = cond (ltb k (n + r.count)) (r.store (k - n)) (put_from (n + r.count) rs k)

-- the number of stores of a kind of work, 0 with nothing to store; Figures has the numerals
unfoldable pub number_of : Kind → ℕ
number_of k = total (runs_for k [] [] [] [])

-- no index of a kind is beyond the nodes, and no register outside those that may be extended; a destroy frees no more nodes than there are, and
-- no index of those that count is beyond them
unfoldable pub index_ok : Kind → (node : List ℕ) → Bool
index_ok Nothing node = true
index_ok Disabling node = true
index_ok (Stash s) node = ltb s.node node_count && ltb s.holder node_count
index_ok (Update root) node = ltb root node_count
index_ok ColdBoot node = true
index_ok (Extension r) node = extendable r
index_ok (Derive i) node = ltb i node_count
index_ok (Replace s) node = ltb s.node node_count && ltb s.holder node_count
index_ok (Extend i) node = ltb i node_count
index_ok (Rotate i) node = ltb i node_count
index_ok (Destroy count) node = leb count node_count && all_below count (λ j. ltb (get_or node j 0) node_count)

-- store k of a kind, with the prepared words; a kind with an index that is not fine has none, and neither is there one past the number
unfoldable pub store_at : Kind → ℕ → List ℕ → List ℕ → List ℕ → List ℕ → Put
store_at kind k register journey node secret =
    cond (index_ok kind node && ltb k (number_of kind)) (put_from 0 (runs_for kind register journey node secret) k) (put 0 0)

-- ---- of the private functions

-- what a row that is gone through gives with the runs to come
abbrev pub sought : Row → List Run → Put
sought r rest = unwrap_or r.found (put_from 0 rest r.before)
