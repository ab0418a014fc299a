-- By what is read at the front of the bytes from the index on.
use native.Mathlib.Omega.{arith}
use mathlib.Core.Path.{◌≡◌, refl, ap, ◌∙◌}
use Prim.Native.Nat.{ℕ, ◌≤◌, ◌-◌}
use borrow.Author.Rules.{rules}
use mathlib.Core.List.{List}
use lib.Seq.{take_all}
use lib.ListN.{length, take, drop, length-drop, drop_of_length-le}
use Rattle.std.proofs.Common.{Ok, Err}
use Rattle.journal.specs.Read.{refused, got}
use Rattle.journal.specs.Numbers.{read_number}
use Rattle.journal_bytes.specs.Results.{taken_of, number_read}
use Rattle.journal_bytes.proofs.Numbers.{number_fits}
use Rattle.journal_bytes.proofs.number.read_number.Goals as goal

pub returns-then-s-at : goal.returns-then-s-at
unfolding number_read read_number
returns-then-s-at c = rw (drop_of_length-le c.args.s.now {i = c.args.at} (omega arith)) refl

-- the bytes from an index on
from : (s : List ℕ) (at : ℕ) → take (length s - at) (drop at s) ≡ drop at s
from s at = take_all (length s - at) (drop at s) (omega (arith, length-drop at s))

pub returns-in_err-value : goal.returns-in_err-value
unfolding number_read
returns-in_err-value c =
    let s = c.args.s.now in
    let q : c.from_residual.result ≡ Err c.in_err-value.field-0.0 = search rules in
    let e : refused c.in_err-value.field-0.0 ≡ read_number (drop c.args.at s) = c.in_err-value.ensures ∙ ap read_number (from s c.args.at) in
    q ∙ ap (taken_of (drop c.args.at s)) e

-- the number, and that it takes no more bytes than there are
told : (s : List ℕ) (at v : ℕ) (rest : List ℕ) → at ≤ length s → got v rest ≡ read_number (take (length s - at) (drop at s))
    → (length rest ≤ length s - at) × (Ok (v, length s - at - length rest) ≡ number_read (drop at s))
unfolding number_read
told s at v rest h e =
    let q : got v rest ≡ read_number (drop at s) = e ∙ ap read_number (from s at) in
    let n : length s - at - length rest ≡ length (drop at s) - length rest = omega (arith, length-drop at s) in
    (omega (arith, number_fits (drop at s) v rest q, length-drop at s), rw n (ap (taken_of (drop at s)) q))

pub overflow_sub-result : goal.overflow_sub-result
overflow_sub-result c = omega (arith, c.if-s-at.false)

pub overflow_sub-result-2 : goal.overflow_sub-result-2
overflow_sub-result-2 c = omega (arith, (told c.args.s.now c.args.at c.in_ok-value.value c.in_ok-value.rest.now c.if-s-at.false c.in_ok-value.ensures).0)

pub returns : goal.returns
returns c = (told c.args.s.now c.args.at c.in_ok-value.value c.in_ok-value.rest.now c.if-s-at.false c.in_ok-value.ensures).1
