-- `waggleloft_sha384` meets its contract: the copy of 48 bytes over the front of the buffer is the
-- digest before what was behind it. Assumes nothing.
use Rattle.std.proofs.Common.{◌≡◌, ◌≤◌, ℕ, List, ◌++◌, length, drop, refl, ap, ◌∙◌, rules, arith, length-take-le}
use borrow.Author.Tests.{lt-ltb, le-ltb}
use Rattle.sha384.specs.Entries.{longest}
use Rattle.sha384.proofs.Sizes.{digest_told, digest_refused}
use Rattle.waggleloft.specs.Digest.{digest_number, digest_buffer}
use Rattle.waggleloft.proofs.digest.waggleloft_sha384.Goals as goal

pub returns-in-Err : goal.returns-in-Err
unfolding digest_number digest_buffer
returns-in-Err c =
    let told = digest_refused c.args.message.now c.in-Err.error c.in-Err.ensures in
    rw (lt-ltb longest (length c.args.message.now) told.0) (record { value = c.from.ensures ∙ told.1; buffer_after = refl })

pub slice_bounds-copy_from_slice-end-2 : goal.slice_bounds-copy_from_slice-end-2
slice_bounds-copy_from_slice-end-2 c =
    let told = digest_told c.args.message.now c.in-Ok.bytes c.in-Ok.ensures in
    let size = length-take-le 48 c.args.buffer.now (grind arith) in
    search rules

pub copy_from_slice-requires : goal.copy_from_slice-requires
copy_from_slice-requires c =
    let told = digest_told c.args.message.now c.in-Ok.bytes c.in-Ok.ensures in
    let size = length-take-le 48 c.args.buffer.now (grind arith) in
    let long : length c.in-Ok.bytes ≡ 48 = search rules in
    search rules

pub returns : goal.returns
unfolding digest_number digest_buffer
returns c =
    let b = c.args.buffer.now in
    let told = digest_told c.args.message.now c.in-Ok.bytes c.in-Ok.ensures in
    let enough : 48 ≤ length b = grind arith in
    rw (le-ltb longest (length c.args.message.now) told.0, le-ltb (length b) 48 enough)
    (record { value = refl; buffer_after = ap (λ (l : List ℕ). l ++ drop 48 b) (c.copy_from_slice.ensures.after ∙ told.1) })
