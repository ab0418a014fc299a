-- The cards, by computing. Assumes nothing.
use mathlib.Core.Path.{refl}
use Rattle.layout.specs.Words.{zeros, words_at, tab}
use Rattle.layout.specs.Below.{all_below, count_below, first_from}
use Rattle.layout.specs.Sizes.{extendable}
use Rattle.tree.specs.Tree.{well_formed, place_ok, same_handle, has_handle, node_with, is_root, root_ok, child_ok, is_child_of, childless, lowest_free, apart_below, clash, leads_if_used, leads}
use Rattle.opening.specs.Orders.{unfit}
use Rattle.history.specs.Ledger.{left_behind, freed_from, next_nodes, next_chain}
use Rattle.journal.specs.Numbers.{read_later, read_number}
use Rattle.journal.specs.Fields.{read_fields}
use Rattle.journal.specs.Entries.{entry_bytes, read_entry}
use Rattle.journal.specs.Journal.{walk, walk_for}
use Rattle.replaying.specs.Replay.{count}
use Rattle.replaying.specs.Report.{output}
use Rattle.replaying.specs.Cards.{Cards}

pub cards : Cards
unfolding zeros words_at tab all_below count_below first_from extendable well_formed place_ok same_handle has_handle node_with is_root root_ok child_ok is_child_of childless lowest_free apart_below clash leads_if_used leads unfit left_behind freed_from next_nodes next_chain entry_bytes read_later read_number read_fields read_entry walk walk_for count output
cards =
    record {
      one_disabling = refl;
      before_a_boot = refl;
      cut_boot = refl;
      unlisted = refl;
      none = refl;
      long_form = refl;
      register_cut = refl;
      register_whole = refl;
      second_entry = refl;
      second_boot = refl;
      register_3 = refl;
      register_31 = refl;
      retain_long = refl;
      handle_cut = refl;
      caller_cut = refl;
      rotate_first = refl;
      retain_2 = refl;
      rotate_again = refl;
      stash_after = refl;
      destroy_again = refl;
      nothing = refl;
      cut_image = refl;
      image_bytes_law = refl;
      compared_from = refl;
      journal_max_law = refl;
    }
