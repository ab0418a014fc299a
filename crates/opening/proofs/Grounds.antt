-- The table of grounds, by computing; whether a tree is well formed is computed once for each. Assumes nothing.
use mathlib.Core.Path.{◌≡◌, refl, ap}
use mathlib.Core.Bool.{Bool, true, false, cond, not}
use mathlib.Core.Option.{none, some}
use Rattle.layout.specs.Sizes.{node_count}
use Rattle.layout.specs.Words.{zeros, tab, words_at}
use Rattle.layout.specs.Below.{all_below, count_below, first_from}
use Rattle.tree.specs.Tree.{same_handle, has_handle, is_root, root_ok, child_ok, place_ok, clash, apart_below, leads, leads_if_used, well_formed, node_with, lowest_free, is_child_of, childless, childless_but, goes_too, freed_within, freed_by}
use Rattle.layout.specs.declared.refusals.Refusal.TheVariants.{NotWellFormed}
use Rattle.opening.specs.Orders.{unfit}
use Rattle.opening.specs.Rules.{refuse, decline}
use Rattle.opening.specs.Grounds.{fresh, two, twice, twice_renamed, full, renamed, full_renamed, chain, chain_gone, GroundCards}

fresh_formed : well_formed node_count fresh ≡ true
unfolding zeros tab words_at all_below count_below first_from same_handle has_handle is_root root_ok child_ok place_ok clash apart_below leads leads_if_used well_formed fresh
fresh_formed = refl

two_formed : well_formed node_count two ≡ true
unfolding zeros tab words_at all_below count_below first_from same_handle has_handle is_root root_ok child_ok place_ok clash apart_below leads leads_if_used well_formed two
two_formed = refl

twice_formed : well_formed node_count twice ≡ false
unfolding zeros tab words_at all_below count_below first_from same_handle has_handle is_root root_ok child_ok place_ok clash apart_below leads leads_if_used well_formed twice
twice_formed = refl

twice_renamed_formed : well_formed node_count twice_renamed ≡ false
unfolding zeros tab words_at all_below count_below first_from same_handle has_handle is_root root_ok child_ok place_ok clash apart_below leads leads_if_used well_formed twice_renamed
twice_renamed_formed = refl

full_formed : well_formed node_count full ≡ true
unfolding zeros tab words_at all_below count_below first_from same_handle has_handle is_root root_ok child_ok place_ok clash apart_below leads leads_if_used well_formed full
full_formed = refl

renamed_formed : well_formed node_count renamed ≡ true
unfolding zeros tab words_at all_below count_below first_from same_handle has_handle is_root root_ok child_ok place_ok clash apart_below leads leads_if_used well_formed renamed
renamed_formed = refl

full_renamed_formed : well_formed node_count full_renamed ≡ true
unfolding zeros tab words_at all_below count_below first_from same_handle has_handle is_root root_ok child_ok place_ok clash apart_below leads leads_if_used well_formed full_renamed
full_renamed_formed = refl

chain_formed : well_formed node_count chain ≡ true
unfolding zeros tab words_at all_below count_below first_from same_handle has_handle is_root root_ok child_ok place_ok clash apart_below leads leads_if_used well_formed chain
chain_formed = refl

chain_gone_formed : well_formed node_count chain_gone ≡ true
unfolding zeros tab words_at all_below count_below first_from same_handle has_handle is_root root_ok child_ok place_ok clash apart_below leads leads_if_used well_formed chain_gone
chain_gone_formed = refl

pub ground_cards : GroundCards
unfolding zeros tab words_at all_below count_below first_from same_handle has_handle is_root node_with lowest_free is_child_of childless childless_but goes_too freed_within freed_by unfit fresh two twice twice_renamed full renamed full_renamed chain chain_gone
ground_cards =
    record {
      off = refl;
      off_formed = refl;
      off_malformed = refl;
      formed = rw twice_formed;
      formed_malformed = ap (λ (b : Bool). cond (not b) (some (refuse NotWellFormed)) (some (decline 5))) twice_formed;
      malformed_data = rw two_formed;
      retain_2 = rw two_formed;
      malformed_handle = rw two_formed;
      retired = rw full_formed;
      unheld = rw two_formed;
      unheld_free = rw fresh_formed;
      unheld_fresh = rw two_formed;
      caller = rw two_formed;
      caller_fresh = rw two_formed;
      caller_root = rw two_formed;
      short = rw two_formed;
      default = rw two_formed;
      all_ones = rw two_formed;
      in_use = rw two_formed;
      own = rw two_formed;
      fresh_full = rw full_formed;
      no_room = rw full_formed;
      rotated = rw full_formed;
      root_extended = rw two_formed;
      root_alone = rw fresh_formed;
      root_children = rw two_formed;
      root_derived = rw fresh_formed;
      children = rw two_formed;
      extended = rw two_formed;
      childless = rw two_formed;
      stash_off = refl;
      stash_formed = ap (λ (b : Bool). cond (not b) (some (refuse NotWellFormed)) none) twice_formed;
      stash_formed_holder = ap (λ (b : Bool). cond (not b) (some (refuse NotWellFormed)) (some (decline 3))) twice_renamed_formed;
      no_holder = rw renamed_formed;
      no_holder_full = rw full_renamed_formed;
      stash_full = rw full_formed;
      stash_served = rw two_formed;
      whole_chain = refl;
      chain_served = rw chain_formed;
      then_no_stash = rw chain_gone_formed;
      then_no_command = rw chain_gone_formed;
      root_rotated = rw fresh_formed;
    }
