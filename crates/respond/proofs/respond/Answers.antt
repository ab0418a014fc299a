-- An input of at most 65,000 bytes is its own front of that length.
use native.Mathlib.Omega.{arith}
use mathlib.Core.Path.{sym, ap, ◌∙◌}
use lib.Seq.{length-take-le, take_all}
use Prim.Native.Nat.{ℕ}
use mathlib.Core.List.{List}
use Rattle.respond.specs.Program.{input_max, output_of, program_output, response_of}
use Rattle.respond.proofs.respond.Goals as goal

pub slice_bounds-respond_to-end : goal.slice_bounds-respond_to-end
slice_bounds-respond_to-end c = sym (length-take-le _ c.args.input.now (omega arith))

pub returns-then-input-gt-INPUT_MAX : goal.returns-then-input-gt-INPUT_MAX
unfolding program_output
returns-then-input-gt-INPUT_MAX c = c.respond_to.ensures

pub returns : goal.returns
unfolding program_output
returns c =
    c.respond_to-2.ensures
    ∙ ap (λ (l : List ℕ). response_of (output_of l)) (sym (take_all input_max c.args.input.now (omega arith)))
