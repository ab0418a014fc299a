-- The opening's equation decides which way was taken: refused, not an update, or all stores made.
use mathlib.Core.Path.{refl, sym, ◌∙◌}
use Rattle.recount.specs.OnImage.{update_made}
use Rattle.recount.proofs.count.count_update.Goals as goal

pub returns-in_default : goal.returns-in_default
unfolding update_made
returns-in_default c =
    let o = c.open_update_boot-booted.ensures.value in
    record { value = rw (← o, c.in_default.is) refl; image_after = rw (← o, c.in_default.is) refl }

pub returns-then-not-is_update : goal.returns-then-not-is_update
unfolding update_made
returns-then-not-is_update c =
    let o = c.open_update_boot-booted.ensures.value in
    let not = sym c.is_update.ensures ∙ c.if-not-is_update.true in
    record { value = rw (← o, c.in-Ok.is, not) refl; image_after = rw (← o, c.in-Ok.is, not) refl }

pub returns : goal.returns
unfolding update_made
returns c =
    let o = c.open_update_boot-booted.ensures.value in
    let yes = sym c.is_update.ensures ∙ c.if-not-is_update.false in
    record { value = rw (← o, c.in-Ok.is, yes) refl; image_after = rw (← o, c.in-Ok.is, yes) c.run_all.ensures.image_after }
