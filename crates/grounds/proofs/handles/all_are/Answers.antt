-- The words are equal to five of v.
use Rattle.std.proofs.Common.{rules, ◌≡◌, ◌∙◌, length, refl}
use Rattle.layout.specs.Sizes.{handle_words}
use Rattle.tree.proofs.Handles.{same_by_eq}
use Rattle.grounds.proofs.handles.all_are.Goals as goal

pub returns : goal.returns
returns c =
    let long : length c.args.handle ≡ handle_words = search rules in
    c.eq.ensures ∙ same_by_eq _ _ long refl
