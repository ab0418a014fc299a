-- `Work::store` meets its contract: the copy moves on as `advance` says (Numbered). Assumes nothing.
use mathlib.Core.Path.{sym, ◌∙◌}
use Rattle.std.proofs.lemmas.Result.{err_from_is_err_and}
use Rattle.work.proofs.Numbered.{made_work, made_handed, refused_handed}
use Rattle.work.proofs.Work.store.Goals as goal

pub returns-in_err-advance : goal.returns-in_err-advance
returns-in_err-advance c =
    let g = sym c.advance.ensures.value ∙ c.in_err-advance.was in
    let p = err_from_is_err_and c.from_residual.result c.from_residual.ensures.1 in
    record { value = rw (p.1, p.2) (sym (refused_handed c.args.self c.args.image.now g)); image_after = c.advance.ensures.image_after }

pub returns : goal.returns
returns c =
    let w = c.args.self in
    let l = c.args.image.now in
    let g = sym c.advance.ensures.value ∙ c.in_ok-advance.was in
    record { value = rw (c.advance.ensures.self_after, made_work w l g) (sym (made_handed w l g)); image_after = c.advance.ensures.image_after }
