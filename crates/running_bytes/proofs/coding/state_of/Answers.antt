-- `running_bytes::coding::state_of` meets its contract: each part is read at its place. Assumes nothing.
use Rattle.running_bytes.specs.Coding.{state_at}
use Rattle.running_bytes.proofs.coding.state_of.Goals as goal

pub returns : goal.returns
unfolding state_at
returns c =
    let total = c.read64.ensures in
    let waiting = c.read64-2.ensures in
    let buffer = c.copy_from_slice.ensures.after in
    let hash = c.hash_in-hash.ensures in
    λ i. record { total = total i; waiting = waiting i; buffer = buffer i; hash = hash i }
