-- The images and the request that cards 8 and 9 are tried on. Assumes nothing.
use Rattle.std.specs.Prelude.{ℕ, ◌-◌, false, List, [], ◌∷◌, ◌++◌, set, replicate}
use Rattle.std.proofs.Math.Option.{some}
use Rattle.layout.specs.Words.{bytes4, zeros}
use Rattle.nodes.specs.Record.{Node}
use Rattle.opening.specs.Values.{stashed_node}
use Rattle.opening.specs.Tasks.{Request, request_of, Measurement, Task, stash, cold_boot}
use Rattle.history.specs.Ledger.{Contents, state_of, image_of}
use Rattle.respond.specs.Program.{program_boot}

-- a cold boot with the inputs of document 01's program
abbrev pub first_boot : Task
first_boot = cold_boot program_boot

-- the boot, then stashes of zero bytes: k nodes are used, one by the boot and one by each stash
abbrev pub zero_measurement : Measurement
zero_measurement = record { type = 0; digest = zeros 48; svn = 0; caller = 0 }

abbrev pub history_of : ℕ → List Task
history_of k = first_boot ∷ replicate (k - 1) (stash zero_measurement)

-- its image: mark 1, attestation 1
unfoldable pub image_with : ℕ → List ℕ
image_with k = image_of 1 1 (state_of (history_of k))

-- where two nodes are used, node 1 is the stash's; here its parent is itself in place of node 0
abbrev pub own_parent : Node
own_parent = stashed_node 1 zero_measurement

abbrev pub looped : Contents
looped =
    let x = state_of (history_of 2) in
    record { secret = x.secret; chain = record { registers = x.chain.registers; nodes = set x.chain.nodes 1 (some own_parent) } }

unfoldable pub own_parent_image : List ℕ
own_parent_image = image_of 1 1 looped

-- a stash of 56 zero bytes with card 3's checksum, from caller 0
abbrev pub zero_stash : Request
zero_stash = request_of 0x4D454153 (bytes4 0xFFFFFEDA ++ zeros 56) 0 [] false []
