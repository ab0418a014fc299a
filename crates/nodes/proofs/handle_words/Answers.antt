-- Each word is its call's.
use Rattle.std.proofs.Common.{rules, ◌+◌, ◌*◌, zero-add}
use Rattle.layout.specs.Words.{words_at, le32}
use Rattle.layout.proofs.Tab.{from_fn_tab}
use Rattle.nodes.proofs.handle_words.Goals as goal

pub returns : goal.returns
unfolding words_at
returns c = from_fn_tab _ _ (λ i. le32 c.args.handle (0 + 4 * i)) _ _ (λ i y q l h. rw zero-add (search rules)) c.from_fn.ensures.items
