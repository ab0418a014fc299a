-- The place of a word: first word, node, offset; past the end zero.
use Rattle.tree.specs.Nodes.{word}
use borrow.Author.Rules.{rules}
use Rattle.tree.proofs.node.Node.word.Goals as goal

pub returns : goal.returns
unfolding word
returns c = search rules
