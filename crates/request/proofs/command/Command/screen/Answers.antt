-- The tests in the order of the definition; each exit is one of its lines.
use native.Mathlib.Omega.{arith}
use Prim.Native.Nat.{ℕ, ◌-◌}
use mathlib.Core.Path.{◌≡◌, sym, ap, ◌∙◌}
use mathlib.Core.List.{List}
use lib.ListN.{length, take, drop, length-drop}
use lib.Seq.{take_all}
use borrow.Author.Tests.{eq-eqb, ne_eqb}
use Rattle.layout.specs.Words.{le32}
use Rattle.layout.proofs.Cases.{told}
use Rattle.message.specs.Checksum.{checksum_of}
use Rattle.opening.specs.Rules.{wrong_checksum}
use Rattle.request.specs.Screen.{screen_of}
use Rattle.request.proofs.command.Command.screen.Goals as goal

pub returns-then-not-is_long : goal.returns-then-not-is_long
unfolding screen_of
returns-then-not-is_long c = rw (told c.is_long.ensures c.if-not-is_long.true)

-- the slice is all bytes after the checksum field
whole : (code : ℕ) (b : List ℕ) (s : ℕ) → s ≡ checksum_of code (take (length b - 4) (drop 4 b)) → s ≡ checksum_of code (drop 4 b)
whole code b s e = e ∙ ap (checksum_of code) (take_all (length b - 4) (drop 4 b) (omega (arith, length-drop 4 b)))

pub returns-then-read32-checksum : goal.returns-then-read32-checksum
unfolding screen_of wrong_checksum
returns-then-read32-checksum c =
    let a = c.args in
    let b = a.bytes.now in
    rw (
      told c.is_long.ensures c.if-not-is_long.false,
      ne_eqb (le32 b 0) (checksum_of a.code (drop 4 b))
          (λ e. c.if-read32-checksum.true (c.read32.ensures ∙ e ∙ sym (whole a.code b _ c.checksum.ensures))),
    )

pub returns : goal.returns
unfolding screen_of wrong_checksum
returns c =
    let a = c.args in
    let b = a.bytes.now in
    rw (
      told c.is_long.ensures c.if-not-is_long.false,
      eq-eqb (le32 b 0) (checksum_of a.code (drop 4 b))
          (sym c.read32.ensures ∙ c.if-read32-checksum.false ∙ whole a.code b _ c.checksum.ensures),
    )
