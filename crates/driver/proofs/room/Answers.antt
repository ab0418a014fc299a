-- A repeat is as long as it says, for any length: at this one the law is cited and not computed.
use Prim.Native.Nat.{ℕ}
use mathlib.Core.Path.{◌≡◌, sym}
use lib.ListN.{length, replicate, length-replicate}
use Rattle.driver.specs.Run.{input_bytes}
use Rattle.driver.proofs.room.Goals as goal

long : (n : ℕ) → n ≡ length (replicate {A = ℕ} n 0)
long n = sym (length-replicate n 0)

pub returns : goal.returns
returns c = long input_bytes
