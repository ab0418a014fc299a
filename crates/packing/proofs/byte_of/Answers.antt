-- A word is below 256 ^ 4, so its digits base 256 past the four are 0.
use Rattle.std.proofs.Common.{rules, ◌≡◌, ℕ, zero, suc, ◌/◌, ◌^◌, ◌<◌, ◌≤◌, ◌∙◌, refl, get_or, arith}
use native.Mathlib.Nat.{zero-lt-suc, lt_of_lt_of_le, pow-le-pow_right, div-eq_of_lt}
use Rattle.layout.specs.Words.{byte_of, bytes4}
use Rattle.packing.proofs.byte_of.Goals as goal

past : (w j : ℕ) → w < 256 ^ 4 → 4 ≤ j → 0 ≡ byte_of w j
past w j s h =
    let z : w / 256 ^ j ≡ 0 = div-eq_of_lt (lt_of_lt_of_le s (pow-le-pow_right (zero-lt-suc 255) h)) in
    rw z

digit : (w j : ℕ) → w < 256 ^ 4 → get_or (bytes4 w) j 0 ≡ byte_of w j
digit w zero s = refl
digit w (suc zero) s = refl
digit w (suc (suc zero)) s = refl
digit w (suc (suc (suc zero))) s = refl
digit w (suc (suc (suc (suc j)))) s = past w _ s (omega arith)

pub returns : goal.returns
returns c =
    let e : c.unwrap_or.result ≡ get_or (bytes4 c.args.w) c.args.j 0 = search rules in
    e ∙ digit c.args.w c.args.j (omega arith)
