-- By the entry's kind.
use mathlib.Core.Path.{◌≡◌}
use lib.ListN.{length}
use Rattle.journal_bytes.specs.Results.{entry_in}
use Rattle.recount.specs.OnImage.{made_on}
use Rattle.recount.proofs.Within.{derive_asks, extend_asks, rotate_asks, destroy_asks, made_by}
use borrow.Author.Rules.{rules}
use Rattle.recount.proofs.count.count.Goals as goal

pub returns-in-ColdBoot : goal.returns-in-ColdBoot
unfolding entry_in made_on
returns-in-ColdBoot c = record { value = rw c.in-ColdBoot.is c.count_cold.ensures.value; image_after = rw c.in-ColdBoot.is c.count_cold.ensures.image_after }

pub returns-in-Update : goal.returns-in-Update
unfolding entry_in made_on
returns-in-Update c = record { value = rw c.in-Update.is c.count_update.ensures.value; image_after = rw c.in-Update.is c.count_update.ensures.image_after }

pub returns-in-Disabling : goal.returns-in-Disabling
unfolding entry_in made_on
returns-in-Disabling c =
    let e = c.count_request.ensures in
    record {
      value = rw c.in-Disabling.is (rw c.disable_bytes.ensures at e.value);
      image_after = rw c.in-Disabling.is (rw c.disable_bytes.ensures at e.image_after);
    }

pub returns-in-Stash : goal.returns-in-Stash
unfolding entry_in made_on
returns-in-Stash c =
    let e = c.count_request-in-Stash.ensures in
    record {
      value = rw c.in-Stash.is (rw c.stash_bytes-bytes.ensures at e.value);
      image_after = rw c.in-Stash.is (rw c.stash_bytes-bytes.ensures at e.image_after);
    }

pub returns-in-Extension : goal.returns-in-Extension
unfolding entry_in made_on
returns-in-Extension c =
    let e = c.count_request-in-Extension.ensures in
    record {
      value = rw c.in-Extension.is (rw c.extend_bytes-bytes.ensures at e.value);
      image_after = rw c.in-Extension.is (rw c.extend_bytes-bytes.ensures at e.image_after);
    }

pub count_fresh-requires : goal.count_fresh-requires
count_fresh-requires c =
    let second_long : length c.args.entry.second ≡ 48 = search rules in
    let a = derive_asks c.args.entry second_long c.in-Derive.is in
    record { bound = a.kind; in_bounds = a.more }

pub returns-in-Derive : goal.returns-in-Derive
returns-in-Derive c =
    let second_long : length c.args.entry.second ≡ 48 = search rules in
    let e = c.count_fresh.ensures in
    let m = made_by (derive_asks c.args.entry second_long c.in-Derive.is) c.args.image.now (e.value, e.image_after) in
    record { value = m.0; image_after = m.1 }

pub count_tree-requires : goal.count_tree-requires
count_tree-requires c =
    let second_long : length c.args.entry.second ≡ 48 = search rules in
    let a = extend_asks c.args.entry second_long c.in-Extend.is in
    record { bound = a.kind; tail_in_bounds = a.more }

pub returns-in-Extend : goal.returns-in-Extend
returns-in-Extend c =
    let second_long : length c.args.entry.second ≡ 48 = search rules in
    let e = c.count_tree.ensures in
    let m = made_by (extend_asks c.args.entry second_long c.in-Extend.is) c.args.image.now (e.value, e.image_after) in
    record { value = m.0; image_after = m.1 }

pub count_fresh-requires-in-Rotate : goal.count_fresh-requires-in-Rotate
count_fresh-requires-in-Rotate c =
    let second_long : length c.args.entry.second ≡ 48 = search rules in
    let a = rotate_asks c.args.entry second_long c.in-Rotate.is in
    record { bound = a.kind; in_bounds = a.more }

pub returns-in-Rotate : goal.returns-in-Rotate
returns-in-Rotate c =
    let second_long : length c.args.entry.second ≡ 48 = search rules in
    let e = c.count_fresh-in-Rotate.ensures in
    let m = made_by (rotate_asks c.args.entry second_long c.in-Rotate.is) c.args.image.now (e.value, e.image_after) in
    record { value = m.0; image_after = m.1 }

pub count_tree-requires-in-Destroy : goal.count_tree-requires-in-Destroy
count_tree-requires-in-Destroy c =
    let second_long : length c.args.entry.second ≡ 48 = search rules in
    let a = destroy_asks c.args.entry second_long c.in-Destroy.is in
    record { bound = a.kind; tail_in_bounds = a.more }

pub returns-in-Destroy : goal.returns-in-Destroy
returns-in-Destroy c =
    let second_long : length c.args.entry.second ≡ 48 = search rules in
    let e = c.count_tree-in-Destroy.ensures in
    let m = made_by (destroy_asks c.args.entry second_long c.in-Destroy.is) c.args.image.now (e.value, e.image_after) in
    record { value = m.0; image_after = m.1 }
