-- The callees, put together.
use Rattle.opening.specs.Works.{work_at}
use Rattle.boot.proofs.update.updated.Goals as goal

pub update_values-values-requires : goal.update_values-values-requires
update_values-values-requires c = (c.root_index-root.ensures.upper_bound, c.root_index-root.ensures.value)

pub returns : goal.returns
unfolding work_at
returns c = rw (c.ready_with.ensures, c.update_values-values.ensures, c.root_index-root.ensures.value)
