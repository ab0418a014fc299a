-- Accepted inputs are 48 bytes each, so the first 48 bytes of each are all of it. Assumes nothing.
use mathlib.Core.Path.{◌≡◌, ◌∙◌}
use Prim.Native.Nat.{ℕ}
use native.Mathlib.Omega.{arith}
use mathlib.Core.Bool.{true}
use mathlib.Core.List.{List}
use lib.Dec.{eqb}
use lib.ListN.{length}
use lib.Seq.{take_all}
use borrow.Author.Tests.{eqb-true}
use Rattle.layout.specs.Words.{part}
use Rattle.layout.proofs.Cases.{and_left, and_right}
use Rattle.layout.proofs.Packing.{part_within}
use Rattle.opening.specs.Tasks.{BootInputs}
use Rattle.opening.specs.Rules.{inputs_ok}

whole : (s : List ℕ) → length s ≡ 48 → part 48 s 0 ≡ s
whole s h = part_within 48 s 0 (omega (arith, h)) ∙ take_all 48 s (omega (arith, h))

pub runtime_whole : (x : BootInputs) → inputs_ok x ≡ true → part 48 x.runtime 0 ≡ x.runtime
unfolding inputs_ok
runtime_whole x h = whole x.runtime (eqb-true (length x.runtime) 48 (and_left _ _ h))

pub manifest_whole : (x : BootInputs) → inputs_ok x ≡ true → part 48 x.manifest 0 ≡ x.manifest
unfolding inputs_ok
manifest_whole x h =
    whole x.manifest (eqb-true (length x.manifest) 48 (and_left _ _ (and_right (eqb (length x.runtime) 48) _ h)))

pub secret_whole : (x : BootInputs) → inputs_ok x ≡ true → part 48 x.secret 0 ≡ x.secret
unfolding inputs_ok
secret_whole x h =
    whole x.secret (eqb-true (length x.secret) 48
    (and_left _ _ (and_right (eqb (length x.manifest) 48) _ (and_right (eqb (length x.runtime) 48) _ h))))
