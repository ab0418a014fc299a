-- The values that a boot or a stash makes (document 01, "Stash", "Cold boot"). Measurements are byte strings of 48. Assumes nothing.
use Rattle.std.specs.Prelude.{ℕ, List, [], ◌∷◌}
use Rattle.layout.specs.Sizes.{root_mark, internal_flag, root_type}
use Rattle.layout.specs.Words.{zeros}
use Rattle.sha384.specs.Entries.{extended, extended_by_each}
use Rattle.nodes.specs.Record.{Node, default_handle, new_node}
use Rattle.opening.specs.Tasks.{BootInputs, Measurement}

-- "48 zero bytes extended by" a digest
abbrev pub measured : List ℕ → List ℕ
measured d = extended (zeros 48) d

-- a register that a boot extends: by the runtime digest, "and then the manifest digest" (document 02, §2)
abbrev pub extended_by_boot : List ℕ → BootInputs → List ℕ
extended_by_boot register x = extended_by_each register (x.runtime ∷ x.manifest ∷ [])

-- a new node below another: no flag, current the digest, type and svn (document 02, §7) from the request, locality the caller
abbrev pub child_node : ℕ → List ℕ → Measurement → Node
child_node parent handle x = new_node parent handle 0 x.digest (measured x.digest) x.type x.caller x.svn

-- a stash's: "default handle"
abbrev pub stashed_node : ℕ → Measurement → Node
stashed_node holder x = child_node holder default_handle x

-- a derived child (document 02, §5) "gets the fresh one and is otherwise as a stash's", with the svn 0 (§7)
abbrev pub derived_node : ℕ → List ℕ → (type : ℕ) → (digest : List ℕ) → (caller : ℕ) → Node
derived_node parent fresh type digest caller = child_node parent fresh (record { type = type; digest = digest; svn = 0; caller = caller })

-- a cold boot's root: internal, current the journey, cumulative measured from zero by it, type RTJM, locality and svn 0
abbrev pub root_node : List ℕ → Node
root_node journey = new_node root_mark default_handle internal_flag journey (measured journey) root_type 0 0
