-- Eight bytes and their weights, in the two orders of summing.
use Rattle.std.proofs.Common.{◌≡◌, ℕ, List, [], ◌∷◌, ◌∙◌, arith}
use Rattle.std.specs.Int.{w64, from_be_bytes}
use Rattle.sha_block.specs.Blocks.{word_of, word_at}
use Rattle.sha_block.proofs.blocks.word_at.Goals as goal

weighed : (a b c d e f g h : ℕ) → from_be_bytes w64 (a ∷ b ∷ c ∷ d ∷ e ∷ f ∷ g ∷ h ∷ []) ≡ word_of a b c d e f g h
unfolding word_of
weighed a b c d e f g h = omega arith

pub returns : goal.returns
unfolding word_at
returns c = c.from_be_bytes.ensures ∙ weighed _ _ _ _ _ _ _ _
