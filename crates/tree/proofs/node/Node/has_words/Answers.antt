-- Every word of the two is the same, or one is not.
use borrow.Author.Rules.{rules}
use borrow.Author.Tests.{tests}
use Prim.Native.Nat.{ℕ, ◌+◌}
use mathlib.Core.Path.{◌≡◌, refl, sym, ap, ◌∙◌}
use mathlib.Core.Bool.{Bool, true, false}
use mathlib.Core.List.{List}
use lib.Dec.{eqb}
use lib.ListN.{get_or}
use Rattle.std.proofs.lemmas.Iterator.{cases_from_all, YieldsList-from_range}
use Rattle.layout.specs.Sizes.{handle_at, handle_words}
use Rattle.layout.proofs.Bounded.{all_same}
use Rattle.tree.specs.Tree.{same_handle}
use Rattle.tree.specs.Nodes.{word}
use Rattle.tree.proofs.Handles.{handle_word, all_range}
use Rattle.tree.proofs.node.Node.has_words.Goals as goal

-- word k of a node's handle and of another are the same
abbrev same : List ℕ → ℕ → List ℕ → ℕ → Bool
same image i handle k = eqb (word image i (handle_at + k)) (get_or handle k 0)

pub returns : goal.returns
unfolding same_handle
returns c =
    let h = c.args.handle in
    let m = c.args.self.now.image.now in
    let i = c.args.self.now.index in
    all_range c.all.result (same m i h) handle_words
    (cases_from_all _ _ _ (λ k. same m i h k ≡ true) (λ k. same m i h k ≡ false) c.all.ensures.ran
    (YieldsList-from_range 0 handle_words handle_words refl refl) (λ x q k. search (rules, tests)) (λ x q k. search (rules, tests)))
    ∙ sym (all_same _ _ handle_words (λ k l. ap (λ (x : ℕ). eqb x (get_or h k 0)) (handle_word m i k l)))
