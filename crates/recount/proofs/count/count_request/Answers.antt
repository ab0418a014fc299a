-- The opening's equation decides which way was taken: refused, nothing to store, or all stores made.
use mathlib.Core.Path.{refl}
use native.Mathlib.Omega.{arith}
use borrow.Author.Tests.{lt-ltb}
use Rattle.recount.specs.OnImage.{request_made}
use Rattle.recount.proofs.count.count_request.Goals as goal

pub returns-in_default : goal.returns-in_default
unfolding request_made
returns-in_default c =
    let o = c.open_request-opened.ensures.value in
    record { value = rw (← o, c.in_default.is) refl; image_after = rw (← o, c.in_default.is) refl }

pub returns-then-left-eq0 : goal.returns-then-left-eq0
unfolding request_made
returns-then-left-eq0 c =
    let o = c.open_request-opened.ensures.value in
    record {
      value = rw (← o, c.in-Ok.is, ← c.left.ensures, c.if-left-eq0.true) refl;
      image_after = rw (← o, c.in-Ok.is, ← c.left.ensures, c.if-left-eq0.true) refl;
    }

pub returns : goal.returns
unfolding request_made
returns c =
    let o = c.open_request-opened.ensures.value in
    let some = lt-ltb 0 c.left.result (omega arith) in
    record {
      value = rw (← o, c.in-Ok.is, ← c.left.ensures, some) refl;
      image_after = rw (← o, c.in-Ok.is, ← c.left.ensures, some) c.run_all.ensures.image_after;
    }
