-- The request of an input, as the code takes it apart. Assumes nothing.
use Prim.Native.Nat.{ℕ, ◌-◌, ◌<◌, ◌≤◌}
use mathlib.Core.Path.{◌≡◌}
use mathlib.Core.Bool.{false}
use mathlib.Core.List.{List, []}
use native.Mathlib.Omega.{arith}
use lib.ListN.{length, take, drop, length-drop, drop_of_length-le}
use lib.Seq.{take_all}
use borrow.Author.Tests.{lt-ltb, le-ltb}
use Rattle.layout.specs.Words.{le32}
use Rattle.opening.specs.Tasks.{request_of}
use Rattle.respond.specs.Program.{request_in}

-- fewer than 4 bytes
pub request_short : (s : List ℕ) → length s < 4 → request_of 0 [] 0 [] false [] ≡ request_in s
unfolding request_in
request_short s h = rw (lt-ltb (length s) 4 h, drop_of_length-le s {i = 4} (omega arith))

-- at least 4
pub request_long : (s : List ℕ) (code : ℕ) → 4 ≤ length s → code ≡ le32 s 0 → request_of code (take (length s - 4) (drop 4 s)) 0 [] false [] ≡ request_in s
unfolding request_in
request_long s code h e = rw (le-ltb (length s) 4 h, take_all (length s - 4) (drop 4 s) (omega (arith, length-drop 4 s)), e)
