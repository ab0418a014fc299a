-- The entry stands in the draft; its length decides, and its bytes are copied.
use native.Mathlib.Omega.{arith}
use mathlib.Core.Path.{◌≡◌, refl, sym, ◌∙◌}
use lib.ListN.{length}
use borrow.Author.Tests.{lt-ltb, le-ltb}
use Rattle.journal.specs.Entries.{entry_bytes}
use Rattle.journal_bytes.specs.Results.{entry_in, taken_given, taken_number, taken_result, taken_buffer}
use Rattle.journal_bytes.proofs.Writing.{draft_length}
use Rattle.journal_bytes.proofs.write.write_entry.Goals as goal

pub returns-then-buffer-n : goal.returns-then-buffer-n
unfolding taken_given taken_number taken_result taken_buffer
returns-then-buffer-n c =
    let e = entry_bytes (entry_in c.args.entry) in
    let p = c.put-n in
    let n : length e ≡ p.result = draft_length _ e p.result p.ensures.out_after (omega (arith, p.auto.out, p.ensures.upper_bound)) in
    rw (lt-ltb (length c.args.buffer.now) (length e) (omega arith)) (record { value = refl; buffer_after = refl })

pub returns : goal.returns
unfolding taken_given taken_number taken_result taken_buffer
returns c =
    let e = entry_bytes (entry_in c.args.entry) in
    let b = c.args.buffer.now in
    let p = c.put-n in
    let n : p.result ≡ length e = sym (draft_length _ e p.result p.ensures.out_after (omega (arith, p.auto.out, p.ensures.upper_bound))) in
    let q : c.copy_from_slice.new.self ≡ e = c.copy_from_slice.ensures.after ∙ p.ensures.out_after in
    rw (le-ltb (length b) (length e) (omega arith), n, q) (record { value = refl; buffer_after = refl })
