-- A row of the store table that is gone through run by run: a run that is passed leaves the rest, with as many stores fewer before the one that is
-- looked for. Assumes nothing.
use Prim.Native.Nat.{ℕ, ◌+◌, ◌-◌, ◌≤◌}
use mathlib.Core.Path.{◌≡◌, refl, sym}
use mathlib.Core.Bool.{false, false≢true}
use mathlib.Core.List.{List, [], ◌∷◌}
use native.Mathlib.Omega.{arith}
use native.Mathlib.Decide.{dec_lt}
use borrow.Author.Tests.{lt-ltb, le-ltb}
use Rattle.std.specs.Prelude.{Option, Some, None}
use Rattle.std.specs.Option.{is_some, unwrap_or}
use Rattle.table.specs.Table.{Run, put_from}
use Rattle.table.specs.declared.Put.{Put}

-- the runs and the store, both n further on
further : (n m k : ℕ) (rs : List Run) → put_from (n + m) rs (n + k) ≡ put_from m rs k
further n m k [] = refl
further n m k (r ∷ rs) =
    elim (dec_lt k (m + r.count)) [
      | yes h ↦
          let e : n + k - (n + m) ≡ k - m = omega arith in
          rw (lt-ltb (n + k) (n + m + r.count) (omega arith), lt-ltb k (m + r.count) h, e)
      | no h ↦
          let e : n + m + r.count ≡ n + (m + r.count) = omega arith in
          rw (le-ltb (n + k) (n + m + r.count) (omega arith), le-ltb k (m + r.count) (omega arith), e) (further n (m + r.count) k rs)
    ]

-- past a run
pub passed : (r : Run) (rs : List Run) (k : ℕ) → r.count ≤ k → put_from 0 rs (k - r.count) ≡ put_from 0 (r ∷ rs) k
passed r rs k h =
    let n : r.count + 0 ≡ 0 + r.count = omega arith in
    let e : r.count + (k - r.count) ≡ k = omega arith in
    rw (le-ltb k (0 + r.count) (omega arith)) (sym (rw (n, e) at (further r.count 0 (k - r.count) rs)))

-- what is not found yet, the rest gives
pub not_found : (found : Option Put) (p : Put) → is_some found ≡ false → unwrap_or found p ≡ p
not_found None p h = refl
not_found (Some q) p h = absurd (false≢true (sym h))
