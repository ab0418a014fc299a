-- `running_bytes::coding::hash_in` meets its contract: each number is its call's. Assumes nothing.
use Rattle.std.proofs.Common.{rules}
use Rattle.layout.proofs.Tab.{from_fn_tab}
use Rattle.running_bytes.specs.Coding.{longs_at}
use Rattle.running_bytes.proofs.coding.hash_in.Goals as goal

pub returns : goal.returns
unfolding longs_at
returns c = from_fn_tab _ _ _ _ _ (λ i y q l h. search rules) c.from_fn.ensures.items
