-- `store` meets its contract: where the store is allowed, the next store is the table's (`store_at_law`) and its address is within the image; refused, the
-- image stays, as in `store_image` (Numbered). Assumes nothing.
use native.Mathlib.Omega.{arith}
use mathlib.Core.Path.{◌≡◌, sym, ◌∙◌}
use mathlib.Core.List.{List}
use Prim.Native.Nat.{ℕ}
use Rattle.std.proofs.lemmas.Result.{err_from_is_err_and}
use Rattle.table.specs.Table.{store_at}
use Rattle.table.proofs.ByKind.{store_at_law}
use Rattle.work.specs.Entries.{runs_of, put_of}
use Rattle.work.specs.Parts.{lent_work}
use Rattle.work.specs.declared.Work.{Work}
use Rattle.work.proofs.Shape.{shaped_index, left_shaped, left_position}
use Rattle.work.proofs.Numbered.{Allowed, made_allowed, made_image, refused_image}
use Rattle.work.proofs.lent.Lent.store.Goals as goal

-- the store that was asked for is the work's next one

next_put : (w : Work) (image : List ℕ) → Allowed w image → store_at w.kind w.position w.register w.journey w.node w.secret ≡ put_of w
unfolding put_of runs_of
next_put w image may = store_at_law w.kind w.position w.register w.journey w.node w.secret (shaped_index w (left_shaped w may.some)) (left_position w may.some)

pub returns-in_err-may_store-clause-value : goal.returns-in_err-may_store-clause-value
returns-in_err-may_store-clause-value c =
    let p = err_from_is_err_and c.from_residual.result c.from_residual.ensures.1 in
    rw (p.1, p.2) (sym c.in_err-may_store.was ∙ c.may_store.ensures)

pub returns-in_err-may_store-clause-image_after : goal.returns-in_err-may_store-clause-image_after
returns-in_err-may_store-clause-image_after c = sym (refused_image (lent_work c.args.self.now) c.args.image.now (sym c.may_store.ensures ∙ c.in_err-may_store.was))

pub bounds-image-at : goal.bounds-image-at
bounds-image-at c =
    let may = made_allowed (lent_work c.args.self.now) c.args.image.now (sym c.may_store.ensures ∙ c.in_ok-may_store.was) in
    omega (arith, may.size, c.put_at-next.ensures.address_lt_image_words)

pub returns-clause-value : goal.returns-clause-value
returns-clause-value c = sym (sym c.may_store.ensures ∙ c.in_ok-may_store.was)

pub returns-clause-image_after : goal.returns-clause-image_after
returns-clause-image_after c =
    let w = lent_work c.args.self.now in
    let given = sym c.may_store.ensures ∙ c.in_ok-may_store.was in
    rw (made_image w c.args.image.now given, ← (next_put w c.args.image.now (made_allowed w c.args.image.now given)), ← c.put_at-next.ensures.value)
