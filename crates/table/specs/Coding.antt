-- A kind of work as three numbers: what C holds of it, and what the driver may change. The only place that gives a kind its number and names its indices.
-- Assumes nothing.
use Rattle.std.specs.Prelude.{ℕ, Bool, cond, ltb, eqb}
use Rattle.table.specs.declared.Kind.{Kind}
use Rattle.table.specs.declared.Kind.TheVariants.{Nothing, Disabling, Stash, Update, ColdBoot, Extension, Derive, Replace, Extend, Rotate, Destroy}
use Rattle.table.specs.declared.coding.Coded.{Coded}

abbrev pub coded_as : ℕ → ℕ → ℕ → Coded
coded_as number first second = record { number = number; first = first; second = second }

-- an index that a kind does not have is 0
unfoldable pub coded_of : Kind → Coded
coded_of Nothing = coded_as 0 0 0
coded_of Disabling = coded_as 1 0 0
coded_of (Stash at) = coded_as 2 at.node at.holder
coded_of (Update root) = coded_as 3 root 0
coded_of ColdBoot = coded_as 4 0 0
coded_of (Extension r) = coded_as 5 r 0
coded_of (Derive i) = coded_as 6 i 0
coded_of (Replace at) = coded_as 7 at.node at.holder
coded_of (Extend i) = coded_as 8 i 0
coded_of (Rotate i) = coded_as 9 i 0
coded_of (Destroy count) = coded_as 10 count 0

-- how many kinds there are: their numbers are those below
abbrev pub kind_count : ℕ
kind_count = 11

unfoldable pub is_kind : ℕ → Bool
is_kind number = ltb number kind_count

-- of any three numbers: an index that the kind does not have is not looked at, and a number that is no kind's goes as no stores
unfoldable pub kind_of : Coded → Kind
kind_of c =
    cond (eqb c.number 1) Disabling
    (cond (eqb c.number 2) (Stash (record { node = c.first; holder = c.second }))
    (cond (eqb c.number 3) (Update c.first)
    (cond (eqb c.number 4) ColdBoot
    (cond (eqb c.number 5) (Extension c.first)
    (cond (eqb c.number 6) (Derive c.first)
    (cond (eqb c.number 7) (Replace (record { node = c.first; holder = c.second }))
    (cond (eqb c.number 8) (Extend c.first)
    (cond (eqb c.number 9) (Rotate c.first)
    (cond (eqb c.number 10) (Destroy c.first) Nothing)))))))))
