-- The bytes of a response that count are the program's output, and an input's front that is used has the whole's. Assumes nothing.
use Rattle.std.proofs.Common.{◌≡◌, ℕ, ◌+◌, List, length, take, ap, ◌∙◌, refl, subst, arith, take-take, Option, None, Some, IfSome}
use Rattle.std.specs.Io.KnownBytes.{Appends}
use lib.Seq.{take_at}
use Rattle.layout.specs.Sizes.{answer_max}
use Rattle.layout.specs.declared.bytes.Bytes.{Bytes}
use Rattle.respond.specs.Program.{input_max, output_of, program_output, response_of}

pub counting_bytes : (r : Bytes (4 + answer_max)) (o : List ℕ) → r ≡ response_of o → take r.len r.bytes ≡ o
unfolding response_of
counting_bytes r o e = ap (λ (x : Bytes (4 + answer_max)). take x.len x.bytes) e ∙ take_at o _ (length o) refl

used_front : (xs front : List ℕ) → front ≡ take input_max xs → program_output front ≡ program_output xs
unfolding program_output
used_front xs front e = ap output_of (ap (take input_max) e ∙ take-take input_max input_max xs (omega arith))

-- what was written for the bytes that were read
pub exchanged : (a old new : Option (List ℕ)) (front : List ℕ) (k : ℕ) → k ≡ input_max → IfSome a (λ xs. front ≡ take k xs)
    → Appends old new (program_output front) → IfSome a (λ xs. Appends old new (program_output xs))
exchanged None old new front k e f more = tt
exchanged (Some xs) old new front k e f more = subst (Appends old new) (used_front xs front (f ∙ ap (λ (n : ℕ). take n xs) e)) more
