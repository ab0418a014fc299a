-- The numbers of stores, by computing. Assumes nothing.
use mathlib.Core.Path.{refl}
use Rattle.table.specs.Table.{number_of}
use Rattle.table.specs.Figures.{StoreFigures}
use Rattle.table.proofs.ByKind.{number_destroy}

pub store_figures : StoreFigures
unfolding number_of
store_figures =
    record {
      stash = λ s. refl;
      disabling = refl;
      update = λ r. refl;
      cold_boot = refl;
      extension = λ r. refl;
      derive = λ i. refl;
      replace = λ s. refl;
      extend = λ i. refl;
      rotate = λ i. refl;
      destroy = number_destroy;
      nothing = refl;
    }
