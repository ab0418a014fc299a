-- Each element is its call's.
use Rattle.std.proofs.Common.{rules}
use Rattle.layout.proofs.Tab.{from_fn_tab}
use Rattle.flat.specs.Flat.{bytes_at}
use Rattle.held.proofs.reading.bytes_in.Goals as goal

pub returns : goal.returns
unfolding bytes_at
returns g c = from_fn_tab _ _ _ _ _ (λ i y q l h. search rules) c.from_fn.ensures.items
