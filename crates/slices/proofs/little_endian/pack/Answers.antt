-- Each word is that of the part.
use Rattle.std.proofs.Common.{rules, ◌≡◌, ◌∙◌, ◌+◌, ◌*◌, ap, arith}
use Rattle.layout.specs.Words.{words_at, part, le32}
use Rattle.layout.proofs.Tab.{from_fn_tab}
use Rattle.slices.proofs.Numbers.{le32_part}
use Rattle.slices.proofs.little_endian.pack.Goals as goal

pub returns : goal.returns
unfolding words_at
returns c =
    let s = c.args.s.now in
    let at = c.args.at in
    from_fn_tab _ _ (λ k. le32 s (at + 4 * k)) _ _ (λ i y q l h.
    let word : y ≡ le32 c.bytes_of-bytes.result (4 * i) = search rules in
    let bytes : c.bytes_of-bytes.result ≡ part 48 s at = c.bytes_of-bytes.ensures in
    (search rules, word ∙ ap (λ b. le32 b (4 * i)) bytes ∙ le32_part 48 s at (4 * i) (omega (arith, l)))) c.from_fn.ensures.items
