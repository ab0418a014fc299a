-- The tree commands of INVOKE_DPE_COMMAND (document 02, §5): its data, and what the rules ask of each command. Assumes nothing.
use Rattle.std.specs.Prelude.{ℕ, Bool, true, false, cond, not, ◌||◌, List, [], ◌∷◌, eqb, ltb, length}
use Rattle.layout.specs.Sizes.{node_count, handle_bytes}
use Rattle.journal.specs.Read.{Read, refused, got}
use Rattle.journal.specs.Fields.{read_fields}
use Rattle.journal.specs.Entries.{derive_fields, extend_fields, handle_fields}
use Rattle.tree.specs.Tree.{Tree, default_words, retired_words, same_handle, node_with}
use Rattle.nodes.specs.Record.{handle_row}

-- "1 derive child (handle, retain 1 or 0, type, digest), 2 extend (handle, digest), 3 rotate handle, 4 destroy", or none of them
pub data NodeCommand : Type 0 where
  derive : (handle : List ℕ) (retain type : ℕ) (digest : List ℕ) → NodeCommand
  extend : (handle digest : List ℕ) → NodeCommand
  rotate destroy : (handle : List ℕ) → NodeCommand
  malformed : NodeCommand

-- ---- the data

-- the fields and nothing behind them: "bytes left over included"
abbrev pub whole : {A : Type 0} → Read A → (A → NodeCommand) → NodeCommand
whole (refused n) command = malformed
whole (got v []) command = command v
whole (got v (b ∷ rest)) command = malformed

-- the command's byte, and behind it its fields, with §3's numbers
unfoldable pub command_in : List ℕ → NodeCommand
command_in [] = malformed
command_in (c ∷ l) =
    cond (eqb c 1) (whole (read_fields derive_fields l) (λ vs. derive vs.0 vs.1.0 vs.1.1.0 vs.1.1.1.0))
    (cond (eqb c 2) (whole (read_fields extend_fields l) (λ vs. extend vs.0 vs.1.0))
    (cond (eqb c 3) (whole (read_fields handle_fields l) (λ vs. rotate vs.0))
    (cond (eqb c 4) (whole (read_fields handle_fields l) (λ vs. destroy vs.0)) malformed)))

-- ---- what the rules ask of a command

pub record Traits : Type 0 where
  pub handle : List ℕ
  -- "anything but exactly one of these four", a retain above 1 among it
  pub is_malformed : Bool
  -- "(derive and rotate only)"; "(derive only)"; "extend or destroy"; "destroy"
  pub takes_fresh : Bool
  pub adds_node : Bool
  pub spares_root : Bool
  pub frees : Bool

abbrev traits : List ℕ → (is_malformed takes_fresh adds_node spares_root frees : Bool) → Traits
traits handle is_malformed takes_fresh adds_node spares_root frees =
    record { handle = handle; is_malformed = is_malformed; takes_fresh = takes_fresh; adds_node = adds_node; spares_root = spares_root; frees = frees }

abbrev pub traits_of : NodeCommand → Traits
traits_of (derive handle retain type digest) = traits handle (ltb 1 retain) true true false false
traits_of (extend handle digest) = traits handle false false false true false
traits_of (rotate handle) = traits handle false true false false false
traits_of (destroy handle) = traits handle false false false true true
traits_of malformed = traits [] true false false false false

-- "the host lends a fresh one for 1 and 3": no other command has it
abbrev pub fresh_for : NodeCommand → List ℕ → List ℕ
fresh_for c fresh = cond (traits_of c).takes_fresh fresh []

-- the node that a command names: the one that holds its handle; node_count where there is none
abbrev pub named_in : Tree → NodeCommand → ℕ
named_in t c = node_with node_count t (handle_row (traits_of c).handle)

-- "fresh handle not 20 bytes, zero, all 0xFF or in use"
unfoldable pub unfit : Tree → List ℕ → Bool
unfit t fresh =
    not (eqb (length fresh) handle_bytes)
    || (same_handle (handle_row fresh) default_words
    || (same_handle (handle_row fresh) retired_words || ltb (node_with node_count t (handle_row fresh)) node_count))
