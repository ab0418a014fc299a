-- All stores of a work, each by the store entry. Assumes nothing.
use Rattle.std.specs.Prelude.{ℕ, zero, suc, List}
use Rattle.work.specs.Entries.{left_of, store_result, store_image}
use Rattle.work.specs.declared.Work.{Work}

-- a work and an image
pub record After : Type 0 where
  pub work : Work
  pub image : List ℕ

-- after n stores
abbrev pub after_stores : ℕ → Work → List ℕ → After
after_stores zero w image = record { work = w; image = image }
after_stores (suc n) w image = after_stores n (store_result w image).work (store_image w image)

-- after all that are left
unfoldable pub all_stores : Work → List ℕ → After
all_stores w image = after_stores (left_of w) w image
