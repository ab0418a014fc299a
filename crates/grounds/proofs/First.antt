-- The first rule that applies, of a list of declines: what the list comes to, and that none applies where there is no number. A tree command's declines
-- are such a list. Assumes nothing.
use Prim.Native.Nat.{ℕ, ◌<◌}
use mathlib.Core.Path.{◌≡◌, refl}
use mathlib.Core.Bool.{Bool, true, false, cond}
use mathlib.Core.List.{List, [], ◌∷◌}
use native.Mathlib.Omega.{arith}
use lib.Dec.{eqb}
use borrow.Author.Tests.{ne_eqb}
use Rattle.tree.specs.Tree.{Tree}
use Rattle.tree.specs.Nodes.{tree_in}
use Rattle.opening.specs.Orders.{NodeCommand, derive, extend, rotate, destroy, malformed, fresh_for}
use Rattle.opening.specs.Tasks.{Order, Ruling}
use Rattle.opening.specs.Rules.{Verdict, refuse, decline, Rule, judged, decide, order_rules}
use Rattle.opening.proofs.Decided.{NoneApply}
use Rattle.orders.specs.Told.{order_told, command_from}
use Rattle.grounds.specs.Ground.{number_of, first_of, ground_of}

-- a decline with a number other than 0
abbrev pub Declining : Verdict → Type 0
Declining (refuse n) = ⊥
Declining (decline n) = 0 < n

abbrev pub AllDecline : List Rule → Type 0
AllDecline [] = Unit {0}
AllDecline (r ∷ rs) = Declining r.verdict × AllDecline rs

pub decided_by : (rs : List Rule) → AllDecline rs → (D : ℕ → Ruling) (R : Ruling) → decide rs D R ≡ cond (eqb (first_of rs) 0) R (D (first_of rs))
decided_by [] h D R = refl
decided_by (r ∷ rs) h D R = go r.applies r.verdict h.0 (decided_by rs h.1 D R)
  where
    go : (b : Bool) (v : Verdict) → Declining v → decide rs D R ≡ cond (eqb (first_of rs) 0) R (D (first_of rs))
        → cond b (judged D v) (decide rs D R)
        ≡ cond (eqb (cond b (number_of v) (first_of rs)) 0) R (D (cond b (number_of v) (first_of rs)))
    go true (refuse n) d e = absurd d
    go true (decline n) d e = rw (ne_eqb n 0 (λ z. omega arith))
    go false v d e = e

pub none_applies : (rs : List Rule) → AllDecline rs → first_of rs ≡ 0 → NoneApply rs
none_applies [] h e = tt
none_applies (r ∷ rs) h e = go r.applies r.verdict h.0 refl (none_applies rs h.1) e
  where
    go : (b : Bool) (v : Verdict) → Declining v → r.applies ≡ b → (first_of rs ≡ 0 → NoneApply rs) → cond b (number_of v) (first_of rs) ≡ 0
        → (r.applies ≡ false) × NoneApply rs
    go true (refuse n) d a on z = absurd d
    go true (decline n) d a on z = absurd (omega arith)
    go false v d a on z = (a, on z)

-- ---- of a tree command

pub order_declines : (t : Tree) (o : Order) → AllDecline (order_rules t o)
order_declines t o = (omega arith, (omega arith, (omega arith, (omega arith, (omega arith, (omega arith, (omega arith, tt)))))))

module _ (t : Tree) (o : Order) where
  pub order_decided : (D : ℕ → Ruling) (R : Ruling)
      → decide (order_rules t o) D R ≡ cond (eqb (first_of (order_rules t o)) 0) R (D (first_of (order_rules t o)))
  order_decided = decided_by (order_rules t o) (order_declines t o)

  pub order_stands : first_of (order_rules t o) ≡ 0 → NoneApply (order_rules t o)
  order_stands = none_applies (order_rules t o) (order_declines t o)

-- the command that the reader told is the one that it read, and so are its declines
pub told_back : (c : NodeCommand) → command_from (order_told c) ≡ c
unfolding command_from order_told
told_back (derive handle retain type digest) = refl
told_back (extend handle digest) = refl
told_back (rotate handle) = refl
told_back (destroy handle) = refl
told_back malformed = refl

pub ground_told : (image : List ℕ) (c : NodeCommand) (fresh : List ℕ) (caller : ℕ)
    → ground_of image (order_told c) fresh caller
    ≡ first_of (order_rules (tree_in image) (record { command = c; fresh = fresh_for c fresh; caller = caller }))
unfolding ground_of
ground_told image c fresh caller = rw (told_back c)
