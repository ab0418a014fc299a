-- Every word of the two matches, or one does not.
use borrow.Author.Rules.{rules}
use borrow.Author.Tests.{tests}
use Prim.Native.Nat.{ℕ, ◌+◌}
use mathlib.Core.Path.{◌≡◌, refl, ap, ◌∙◌}
use mathlib.Core.Bool.{Bool, true, false}
use mathlib.Core.List.{List}
use lib.Dec.{eqb}
use lib.ListN.{get_or}
use Rattle.std.proofs.lemmas.Iterator.{cases_from_all, YieldsList-from_range}
use Rattle.layout.specs.Sizes.{register_words, register_at, journey_register, node_at, current_at}
use Rattle.layout.specs.Below.{all_below}
use Rattle.tree.specs.Nodes.{word}
use Rattle.tree.proofs.Handles.{all_range}
use Rattle.opening.specs.Openings.{root_matches}
use Rattle.boot.proofs.update.root_matches.Goals as goal

-- word k of a node's current measurement and of PCR3 are the same
abbrev same : List ℕ → ℕ → ℕ → Bool
same image root k = eqb (get_or image (node_at root + (current_at + k)) 0) (get_or image (register_at journey_register + k) 0)

pub returns : goal.returns
unfolding root_matches word
returns c =
    let a = c.args in
    all_range c.all.result (same a.image.now a.root) register_words
    (cases_from_all _ _ _ (λ k. same a.image.now a.root k ≡ true) (λ k. same a.image.now a.root k ≡ false) c.all.ensures.ran
    (YieldsList-from_range 0 register_words register_words refl refl) (λ x q k. search (rules, tests)) (λ x q k. search (rules, tests)))
    ∙ ap (λ (r : ℕ). all_below register_words (same a.image.now r)) c.requires.0
