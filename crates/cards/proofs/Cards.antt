-- Bench cards *1 to *9 and 10 hold. Assumes nothing.
use mathlib.Core.Path.{◌≡◌, refl, ◌∙◌}
use mathlib.Core.Logic.{⊎_elim}
use Prim.Native.Nat.{ℕ, ◌-◌}
use native.Mathlib.Omega.{arith}
use mathlib.Core.Bool.{false}
use mathlib.Core.List.{List}
use lib.Dec.{eqb}
use borrow.Author.Tests.{ne_eqb}
use lib.ListN.{length}
use Rattle.layout.specs.Sizes.{node_count, image_words}
use Rattle.layout.specs.Words.{zeros}
use Rattle.message.specs.Checksum.{checksum_of}
use Rattle.tree.specs.Nodes.{tree_in}
use Rattle.tree.proofs.Cycles.{own_parent_law}
use Rattle.work.specs.Entries.{store_given, store_number}
use Rattle.opening.specs.Rules.{answer_of}
use Rattle.opening.specs.Openings.{open_request, open_cold_boot, open_update_boot}
use Rattle.cards.specs.Cards.{GivesOne, StashRequest, Cards}
use Rattle.cards.specs.Images.{image_with, own_parent_image, zero_stash}
use Rattle.cards.proofs.Serving.{declines_off, accepts, declines}
use Rattle.cards.proofs.Images.{root_word, serving, used_count, loop_used, loop_parent}
use Rattle.cards.proofs.Program.{disabled_output}

-- *6: the first rule of every entry

wrong_size : (image : List ℕ) → eqb (length image) image_words ≡ false → GivesOne image
unfolding open_request open_cold_boot open_update_boot store_number store_given
wrong_size image e = record { request = λ r. rw e; cold_boot = λ x. rw e; update_boot = λ x v. rw e; store = λ w. rw e }

-- *9: the request of card 3

zero_stash_law : StashRequest zero_stash
unfolding zeros checksum_of
zero_stash_law = record { code = refl; size = refl; checksum = refl }

pub cards : Cards
cards =
    record {
      card1 = unfold checksum_of in refl;
      card2 = unfold checksum_of in refl;
      card3 = unfold checksum_of zeros in refl;
      card4 = λ image r s q. declines_off image r q s;
      card5 = unfold checksum_of in refl;
      card6 =
          λ image s. wrong_size image (ne_eqb (length image) image_words (λ (z : length image ≡ image_words). ⊎_elim (λ e. omega arith) (λ e. omega arith) s));
      card7 = root_word;
      card8 = λ image. own_parent_law node_count (tree_in image) (omega arith);
      image8 = (loop_used, loop_parent, own_parent_law node_count (tree_in own_parent_image) (omega arith) 1 (omega arith) loop_used loop_parent);
      card9 = λ image r s q. (λ e. accepts image r q s (omega arith), λ e. declines image r q s e);
      images9 = λ k l h. (serving k l h, used_count k l h);
      accepted9 =
          accepts (image_with (node_count - 1)) zero_stash zero_stash_law (serving (node_count - 1) (omega arith) (omega arith)) (omega (arith, used_count (node_count - 1) (omega arith) (omega arith)));
      declined9 = declines (image_with node_count) zero_stash zero_stash_law (serving node_count (omega arith) (omega arith)) (used_count node_count (omega arith) (omega arith));
      card10 = disabled_output ∙ unfold answer_of checksum_of zeros in refl;
    }
