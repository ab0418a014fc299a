-- One store of the ledger's work in hand: the last one, one before it, or refused. Assumes nothing.
use mathlib.Core.Path.{◌≡◌, refl}
use Prim.Native.Nat.{ℕ, suc, ◌-◌, ◌≤◌, ◌<◌}
use native.Mathlib.Omega.{arith}
use mathlib.Core.Bool.{Bool, true, false, cond}
use mathlib.Core.List.{List, [], ◌∷◌, ◌++◌}
use mathlib.Core.Option.{some}
use lib.Dec.{ltb, eqb}
use borrow.Author.Tests.{ltb-true, eqb-true, eqb-false}
use Rattle.layout.specs.Refusals.{no_store_left}
use Rattle.opening.specs.Tasks.{Task}
use Rattle.history.specs.Calls.{Step, refusal, stored}
use Rattle.history.specs.Ledger.{Job, Ledger, ledger_store}

-- the ledger one store on
abbrev pub stepped : Ledger → Job → List Task → Bool → Ledger
stepped b j h u = record { history = h; hand = some j; made = suc b.made; torn = b.torn; unfinished = u }

pub by_store : (P : Step Ledger → Type 0) (b : Ledger) (j : Job)
    → (suc b.made ≡ j.stores → P (record { state = stepped b j (b.history ++ (j.task ∷ [])) false; result = stored 0 }))
    → (suc b.made < j.stores → P (record { state = stepped b j b.history true; result = stored (j.stores - suc b.made) }))
    → P (record { state = b; result = refusal no_store_left }) → P (ledger_store b (some j))
by_store P b j last more over = go (ltb b.made j.stores) refl (eqb (suc b.made) j.stores) refl
  where
    go : (x : Bool) → ltb b.made j.stores ≡ x → (y : Bool) → eqb (suc b.made) j.stores ≡ y
        → P (cond x
        (cond y (record { state = stepped b j (b.history ++ (j.task ∷ [])) false; result = stored 0 })
        (record { state = stepped b j b.history true; result = stored (j.stores - suc b.made) }))
        (record { state = b; result = refusal no_store_left }))
    go true p true q = last (eqb-true (suc b.made) j.stores q)
    go true p false q =
        let l : b.made < j.stores = ltb-true b.made j.stores p in
        let n : suc b.made ≡ j.stores → ⊥ = eqb-false (suc b.made) j.stores q in
        more (strict (suc b.made) j.stores (omega arith) n)
      where
        strict : (m n : ℕ) → m ≤ n → (m ≡ n → ⊥) → m < n
        strict m n l z = omega arith
    go false p y q = over
