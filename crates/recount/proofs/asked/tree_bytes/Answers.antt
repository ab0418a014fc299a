-- The data within the bytes of the entry, whose caller is one byte.
use mathlib.Core.Path.{◌≡◌, sym, ap, ◌∙◌}
use Prim.Native.Nat.{ℕ, ◌≤◌}
use mathlib.Core.List.{List, ◌++◌}
use lib.ListN.{length}
use Rattle.std.proofs.Common.{Ok}
use Rattle.layout.specs.Words.{bytes4}
use Rattle.journal.specs.Entries.{entry_bytes, longest}
use Rattle.journal_bytes.specs.declared.entry.EntryParts.{EntryParts}
use Rattle.journal_bytes.specs.Results.{entry_in}
use Rattle.opening.specs.Rules.{invoke_code}
use Rattle.replaying.specs.Asked.{sealed}
use Rattle.recount.specs.Within.{without_caller}
use Rattle.recount.proofs.Within.{parts_short, draft_fits, kind_there, tail_there, front_there, front_long, front_short, front_data}
use borrow.Author.Rules.{rules}
use Rattle.recount.proofs.asked.tree_bytes.Goals as goal

short : (e : EntryParts) → length e.first ≡ 48 → length e.second ≡ 48 → length (entry_bytes (entry_in (without_caller e))) ≤ longest
short e f s = parts_short e.value e.svn e.retain 0 e.first e.second f s e.kind

pub unwrap-length-requires : goal.unwrap-length-requires
unwrap-length-requires c =
    let first_long : length c.args.entry.first ≡ 48 = search rules in
    let second_long : length c.args.entry.second ≡ 48 = search rules in
    let e = short c.args.entry first_long second_long in
    let q : c.write_entry.result ≡ Ok (length (entry_bytes (entry_in (without_caller c.args.entry)))) = c.write_entry.ensures.value ∙ draft_fits _ e in
    rw q (search rules)

pub overflow_sub-draft : goal.overflow_sub-draft
overflow_sub-draft c =
    let first_long : length c.args.entry.first ≡ 48 = search rules in
    let second_long : length c.args.entry.second ≡ 48 = search rules in
    let w = c.write_entry in
    kind_there c.args.tail _ (short c.args.entry first_long second_long) c.requires.tail_in_bounds c.unwrap-length.result w.new.buffer (sym c.unwrap-length.ensures ∙ w.ensures.value) w.ensures.buffer_after c.requires.bound

pub overflow_sub-end : goal.overflow_sub-end
overflow_sub-end c =
    let first_long : length c.args.entry.first ≡ 48 = search rules in
    let second_long : length c.args.entry.second ≡ 48 = search rules in
    let w = c.write_entry in
    tail_there c.args.tail _ (short c.args.entry first_long second_long) c.requires.tail_in_bounds c.unwrap-length.result w.new.buffer (sym c.unwrap-length.ensures ∙ w.ensures.value) w.ensures.buffer_after

pub slice_bounds-draft-end : goal.slice_bounds-draft-end
slice_bounds-draft-end c =
    let first_long : length c.args.entry.first ≡ 48 = search rules in
    let second_long : length c.args.entry.second ≡ 48 = search rules in
    let w = c.write_entry in
    front_there c.args.tail _ (short c.args.entry first_long second_long) c.requires.tail_in_bounds c.unwrap-length.result w.new.buffer (sym c.unwrap-length.ensures ∙ w.ensures.value) w.ensures.buffer_after

pub slice_bounds-framed-end : goal.slice_bounds-framed-end
slice_bounds-framed-end c =
    let first_long : length c.args.entry.first ≡ 48 = search rules in
    let second_long : length c.args.entry.second ≡ 48 = search rules in
    let w = c.write_entry in
    sym (front_long c.args.tail _ (short c.args.entry first_long second_long) c.requires.tail_in_bounds c.unwrap-length.result w.new.buffer (sym c.unwrap-length.ensures ∙ w.ensures.value) w.ensures.buffer_after)

pub framed-requires : goal.framed-requires
framed-requires c =
    let first_long : length c.args.entry.first ≡ 48 = search rules in
    let second_long : length c.args.entry.second ≡ 48 = search rules in
    let w = c.write_entry in
    front_short c.args.tail _ (short c.args.entry first_long second_long) c.requires.tail_in_bounds c.unwrap-length.result w.new.buffer (sym c.unwrap-length.ensures ∙ w.ensures.value) w.ensures.buffer_after

pub returns-clause-bytes_value : goal.returns-clause-bytes_value
returns-clause-bytes_value c =
    let first_long : length c.args.entry.first ≡ 48 = search rules in
    let second_long : length c.args.entry.second ≡ 48 = search rules in
    let w = c.write_entry in
    c.framed.ensures.bytes_value ∙ ap (λ (l : List ℕ). sealed invoke_code (bytes4 (length l) ++ l)) (front_data c.args.tail _ (short c.args.entry first_long second_long) c.requires.tail_in_bounds c.unwrap-length.result w.new.buffer (sym c.unwrap-length.ensures ∙ w.ensures.value) w.ensures.buffer_after)
