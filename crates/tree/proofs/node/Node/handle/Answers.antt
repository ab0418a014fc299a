-- Each word is its call's.
use Rattle.std.proofs.Common.{rules, ◌+◌, ◌∙◌, ℕ, ap, get_or, arith}
use Rattle.layout.specs.Sizes.{handle_at, handle_words, node_at}
use Rattle.layout.specs.Words.{part}
use Rattle.layout.proofs.Tab.{from_fn_tab, tab_same}
use Rattle.tree.specs.Nodes.{word, tree_in}
use Rattle.tree.proofs.node.Node.handle.Goals as goal

pub returns : goal.returns
unfolding part tree_in word
returns c =
    let m = c.args.self.now.image.now in
    let i = c.args.self.now.index in
    from_fn_tab _ _ (λ k. get_or m (node_at i + (handle_at + k)) 0) _ _ (λ k y q l h. search rules) c.from_fn.ensures.items
    ∙ tab_same handle_words _ _ (λ k. ap (λ (j : ℕ). get_or m j 0) (omega arith))
