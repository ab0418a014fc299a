-- What the data of a tree command holds once it is read: a handle of 20 bytes and a digest of 48. Assumes nothing.
use Prim.Native.Nat.{ℕ}
use mathlib.Core.Path.{◌≡◌, refl}
use mathlib.Core.Bool.{Bool, true, false, cond, not, ◌&&◌, ◌||◌}
use mathlib.Core.List.{List, [], ◌∷◌}
use native.Mathlib.Omega.{arith}
use lib.Dec.{eqb}
use lib.ListN.{length}
use borrow.Author.Tests.{eqb-true, ltb-false}
use Rattle.layout.specs.Sizes.{handle_bytes}
use Rattle.journal.specs.Read.{Read, refused, got}
use Rattle.journal.specs.Fields.{Field, Values, read_fields}
use Rattle.journal.specs.Entries.{derive_fields, extend_fields, handle_fields}
use Rattle.journal.proofs.Says.{Says}
use Rattle.journal.proofs.Fields.{FieldsSized, fields_sized}
use Rattle.tree.specs.Tree.{Tree}
use Rattle.opening.specs.Orders.{NodeCommand, derive, extend, rotate, destroy, malformed, whole, command_in, traits_of, fresh_for, unfit}
use Rattle.opening.proofs.Decided.{negated}
use Rattle.opening.proofs.Recorded.{ToldOrder}

-- the sizes of what the data gives
abbrev pub Sized : NodeCommand → Type 0
Sized (derive handle retain type digest) = (length handle ≡ handle_bytes) × (length digest ≡ 48)
Sized (extend handle digest) = (length handle ≡ handle_bytes) × (length digest ≡ 48)
Sized (rotate handle) = length handle ≡ handle_bytes
Sized (destroy handle) = length handle ≡ handle_bytes
Sized malformed = Unit {0}

-- of fields that are read with nothing behind them
whole_sized : (fs : List Field) (f : Values fs → NodeCommand) → ((vs : Values fs) → FieldsSized fs vs → Sized (f vs)) → (x : Read (Values fs))
    → Says (λ vs rest. FieldsSized fs vs) x → Sized (whole x f)
whole_sized fs f h (refused n) s = tt
whole_sized fs f h (got vs []) s = h vs s
whole_sized fs f h (got vs (b ∷ rest)) s = tt

pub command_sized : (l : List ℕ) → Sized (command_in l)
unfolding command_in
command_sized [] = tt
command_sized (c ∷ l) = go (eqb c 1) (eqb c 2) (eqb c 3) (eqb c 4)
  where
    go : (p q r s : Bool)
        → Sized (cond p (whole (read_fields derive_fields l) (λ vs. derive vs.0 vs.1.0 vs.1.1.0 vs.1.1.1.0))
        (cond q (whole (read_fields extend_fields l) (λ vs. extend vs.0 vs.1.0))
        (cond r (whole (read_fields handle_fields l) (λ vs. rotate vs.0))
        (cond s (whole (read_fields handle_fields l) (λ vs. destroy vs.0)) malformed))))
    go true q r s =
        whole_sized derive_fields (λ vs. derive vs.0 vs.1.0 vs.1.1.0 vs.1.1.1.0) (λ vs h. (h.0, h.1.1.1.0)) (read_fields derive_fields l)
        (fields_sized derive_fields l)
    go false true r s =
        whole_sized extend_fields (λ vs. extend vs.0 vs.1.0) (λ vs h. (h.0, h.1.0)) (read_fields extend_fields l) (fields_sized extend_fields l)
    go false false true s = whole_sized handle_fields (λ vs. rotate vs.0) (λ vs h. h.0) (read_fields handle_fields l) (fields_sized handle_fields l)
    go false false false true = whole_sized handle_fields (λ vs. destroy vs.0) (λ vs h. h.0) (read_fields handle_fields l) (fields_sized handle_fields l)
    go false false false false = tt

-- a fresh handle that is fit has 20 bytes
pub fit_length : (t : Tree) (fresh : List ℕ) → unfit t fresh ≡ false → length fresh ≡ handle_bytes
unfolding unfit
fit_length t fresh e = eqb-true (length fresh) handle_bytes (negated _ (left (not (eqb (length fresh) handle_bytes)) _ e))
  where
    left : (a b : Bool) → (a || b) ≡ false → a ≡ false
    left true b q = q
    left false b q = refl

-- what is not malformed, and takes a fit handle where it takes one, can be told
pub order_told_law : (t : Tree) (c : NodeCommand) (fresh : List ℕ) → Sized c → (traits_of c).is_malformed ≡ false
    → ((traits_of c).takes_fresh && unfit t (fresh_for c fresh)) ≡ false → ToldOrder c (fresh_for c fresh)
order_told_law t (derive h r ty d) fresh s m u = (s.0, s.1, fit_length t fresh u, omega (arith, ltb-false 1 r m))
order_told_law t (extend h d) fresh s m u = s
order_told_law t (rotate h) fresh s m u = (s, fit_length t fresh u)
order_told_law t (destroy h) fresh s m u = s
order_told_law t malformed fresh s m u = tt
