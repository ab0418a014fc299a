-- The table of facts of each task, and the work that it is at an image (document 01, "Stash", "Cold boot", "Update boot"; document 02,
-- §1). Assumes nothing.
use Rattle.std.specs.Prelude.{ℕ, ◌-◌, ◌*◌, Bool, true, false, cond, List, ◌++◌, eqb, length, set}
use Rattle.std.proofs.Math.Option.{Option, none, some}
use Rattle.layout.specs.Sizes.{node_count, node_words, register_words, register_at, journey_register, stash_register, handle_bytes, locality_at}
use Rattle.layout.specs.Words.{words48, bytes48, part, zeros}
use Rattle.sha384.specs.Entries.{extended}
use Rattle.tree.specs.Tree.{Tree, default_words, root_in, node_with, lowest_free, freed_by}
use Rattle.tree.specs.Nodes.{tree_in, cumulative_in}
use Rattle.nodes.specs.Record.{node_row, measurements_row, handle_placed}
use Rattle.making.specs.Made.{no_values, work_with}
use Rattle.table.specs.declared.Kind.{Kind}
use Rattle.table.specs.declared.Kind.TheVariants.{Nothing, Disabling, Stash, Update, ColdBoot, Extension, Derive, Replace, Extend, Rotate, Destroy}
use Rattle.work.specs.declared.Work.{Work}
use Rattle.making.specs.declared.Values.{Values}
use Rattle.opening.specs.Values.{extended_by_boot, stashed_node, derived_node, root_node}
use Rattle.opening.specs.Orders.{NodeCommand, derive, extend, rotate, destroy, malformed, traits_of, named_in}
use Rattle.opening.specs.Tasks.{BootInputs, Measurement, RegisterExtension, Task, no_stores, kept_boot, disable_command, disabling_boot, stash, update, cold_boot, extension, invoke}
use Rattle.opening.specs.declared.Outcome.{Outcome}
use Rattle.opening.specs.declared.Outcome.TheVariants.{Cold, Kept, Updated, Disabled}

-- ---- the values that a work will store, at an image, and the inputs that its journal entry tells

-- the 48 bytes of a register
unfoldable pub register_in : List ℕ → ℕ → List ℕ
register_in image i = bytes48 (part register_words image (register_at i))

-- a register extended by a digest
abbrev pub register_extended : List ℕ → ℕ → List ℕ → List ℕ
register_extended image i d = words48 (extended (register_in image i) d)

-- the inputs of a stash or an extension that are not in its node or its kind: the digest
abbrev pub digest_told : List ℕ → List ℕ
digest_told d = d ++ zeros 48

-- "a boot's digests" (document 02, §3), and never the secret
abbrev pub boot_told : BootInputs → List ℕ
boot_told x = x.runtime ++ x.manifest

-- stash: PCR31 extended by the digest, and the new node below the holder of the default handle
abbrev pub stash_values : Measurement → List ℕ → Values
stash_values x image =
    record {
      register = register_extended image stash_register x.digest;
      journey = zeros register_words;
      node = node_row (stashed_node (node_with node_count (tree_in image) default_words) x);
      secret = zeros register_words;
      inputs = digest_told x.digest;
    }

-- update: PCR2 measured from zero, PCR3 extended, the new secret, and the root's two measurements from the new PCR3
abbrev pub update_values : BootInputs → List ℕ → Values
update_values x image =
    let journey = extended_by_boot (register_in image journey_register) x in
    record {
      register = words48 (extended_by_boot (zeros 48) x);
      journey = words48 journey;
      node = measurements_row journey (extended (bytes48 (cumulative_in image (root_in node_count (tree_in image)))) journey);
      secret = words48 x.secret;
      inputs = boot_told x;
    }

-- cold boot: PCR2 and PCR3 measured from zero, the secret, and the root's node
abbrev pub cold_values : BootInputs → Values
cold_values x =
    let journey = extended_by_boot (zeros 48) x in
    record {
      register = words48 journey;
      journey = words48 journey;
      node = node_row (root_node journey);
      secret = words48 x.secret;
      inputs = boot_told x;
    }

-- extension: its register extended by its digest
abbrev pub extension_values : RegisterExtension → List ℕ → Values
extension_values x image =
    record {
      register = register_extended image x.register x.digest;
      journey = zeros register_words;
      node = zeros node_words;
      secret = zeros register_words;
      inputs = digest_told x.digest;
    }

-- ---- a tree command's kind, at the nodes where it is opened, and its values (document 02, §5)

abbrev pub order_kind : NodeCommand → Tree → Kind
order_kind (derive handle retain type digest) t =
    let free = lowest_free node_count t in
    let parent = named_in t (derive handle retain type digest) in
    cond (eqb retain 0) (Replace (record { node = free; holder = parent })) (Derive free)
order_kind (extend handle digest) t = Extend (named_in t (extend handle digest))
order_kind (rotate handle) t = Rotate (named_in t (rotate handle))
order_kind (destroy handle) t = Destroy (length (freed_by node_count t (named_in t (destroy handle))))
order_kind malformed t = Nothing

-- digest, handle and the fresh handle's 20 bytes for the journal; what a command lacks is zero
abbrev pub invoke_told : (digest handle fresh : List ℕ) → List ℕ
invoke_told digest handle fresh = digest ++ (handle ++ (part handle_bytes fresh 0 ++ zeros (48 - 2 * handle_bytes)))

abbrev pub node_values : (node inputs : List ℕ) → Values
node_values node inputs =
    record { register = zeros register_words; journey = zeros register_words; node = node; secret = zeros register_words; inputs = inputs }

-- and the caller for the journal, in a word that the command does not store
abbrev pub with_caller : List ℕ → ℕ → List ℕ
with_caller node caller = set node locality_at caller

-- derive: the child below the named node; extend: the digest, and the cumulative extended by it; rotate: the fresh handle; destroy: the indices of
-- the nodes that it frees
abbrev pub order_values : NodeCommand → (fresh : List ℕ) → ℕ → List ℕ → Values
order_values (derive handle retain type digest) fresh caller image =
    let parent = named_in (tree_in image) (derive handle retain type digest) in
    node_values (node_row (derived_node parent fresh type digest caller)) (invoke_told digest handle fresh)
order_values (extend handle digest) fresh caller image =
    let i = named_in (tree_in image) (extend handle digest) in
    node_values (with_caller (measurements_row digest (extended (bytes48 (cumulative_in image i)) digest)) caller)
    (invoke_told digest handle (zeros handle_bytes))
order_values (rotate handle) fresh caller image = node_values (with_caller (handle_placed fresh) caller) (invoke_told (zeros 48) handle fresh)
order_values (destroy handle) fresh caller image =
    let freed = freed_by node_count (tree_in image) (named_in (tree_in image) (destroy handle)) in
    node_values (with_caller (freed ++ zeros (node_words - length freed)) caller) (invoke_told (zeros 48) handle (zeros handle_bytes))
order_values malformed fresh caller image = no_values

-- ---- one row for each task

pub record Facts : Type 0 where
  -- the kind of work, at the nodes where it is opened
  pub kind : Tree → Kind
  -- the values that it will store, at an image, and its inputs
  pub values : List ℕ → Values
  -- what it makes of the device secret
  pub secret : List ℕ → List ℕ
  -- a disabling
  pub disables : Bool
  -- a destroy (document 02, §5)
  pub frees : Bool
  -- of a boot: "Outcomes: 0 cold, 1 kept, 2 updated, 3 disabled."
  pub boot : Option Outcome

abbrev row : (Tree → Kind) → (List ℕ → Values) → (List ℕ → List ℕ) → (disables frees : Bool) → Option Outcome → Facts
row kind values secret disables frees boot =
    record { kind = kind; values = values; secret = secret; disables = disables; frees = frees; boot = boot }

abbrev pub facts_of : Task → Facts
facts_of no_stores = row (λ t. Nothing) (λ m. no_values) (λ s. s) false false none
facts_of kept_boot = row (λ t. Nothing) (λ m. no_values) (λ s. s) false false (some Kept)
facts_of disable_command = row (λ t. Disabling) (λ m. no_values) (λ s. zeros 48) true false none
facts_of disabling_boot = row (λ t. Disabling) (λ m. no_values) (λ s. zeros 48) true false (some Disabled)
facts_of (stash x) =
    row (λ t. Stash (record { node = lowest_free node_count t; holder = node_with node_count t default_words })) (stash_values x) (λ s. s) false false none
facts_of (update x) = row (λ t. Update (root_in node_count t)) (update_values x) (λ s. x.secret) false false (some Updated)
facts_of (cold_boot x) = row (λ t. ColdBoot) (λ m. cold_values x) (λ s. x.secret) false false (some Cold)
facts_of (extension x) = row (λ t. Extension x.register) (extension_values x) (λ s. s) false false none
facts_of (invoke o) =
    row (order_kind o.command) (order_values o.command o.fresh o.caller) (λ s. s) false (traits_of o.command).frees none

-- the work of a task at an image, with the answer a
unfoldable pub work_at : List ℕ → Task → List ℕ → Work
work_at image t a = work_with ((facts_of t).kind (tree_in image)) ((facts_of t).values image) a
