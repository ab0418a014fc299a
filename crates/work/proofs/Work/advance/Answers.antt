-- `Work::advance` meets its contract: result and image are those of the work's parts (Parts); a store that is made has a store left, so the position
-- may move on (Numbered). Assumes nothing.
use native.Mathlib.Omega.{arith}
use mathlib.Core.List.{List}
use Prim.Native.Nat.{ℕ}
use mathlib.Core.Path.{◌≡◌, sym, ap, ◌∙◌}
use Rattle.std.proofs.Common.{Result}
use Rattle.std.proofs.lemmas.Result.{err_from_is_err_and}
use Rattle.layout.specs.declared.refusals.Refusal.{Refusal}
use Rattle.work.specs.declared.Work.{Work}
use Rattle.work.specs.declared.lent.Lent.{Lent}
use Rattle.work.specs.Entries.{store_given, store_image}
use Rattle.work.specs.Parts.{lent_work}
use Rattle.work.proofs.Shape.{left_below}
use Rattle.work.proofs.Parts.{storing_of, given_storing, image_storing}
use Rattle.work.proofs.Numbered.{made_allowed, made_work, refused_work}
use Rattle.work.proofs.Work.advance.Goals as goal

given : (w : Work) (image : List ℕ) (l : Lent) {r s : Result (Unit {0}) Refusal} → r ≡ store_given (lent_work l) image → lent_work l ≡ storing_of w → r ≡ s
    → store_given w image ≡ s
given w image l e p i = sym (given_storing w image) ∙ ap (λ (x : Work). store_given x image) (sym p) ∙ sym e ∙ i

image_of : (w : Work) (image : List ℕ) (l : Lent) → lent_work l ≡ storing_of w → store_image (lent_work l) image ≡ store_image w image
image_of w image l p = ap (λ (x : Work). store_image x image) p ∙ image_storing w image

pub returns-in_err-store : goal.returns-in_err-store
returns-in_err-store c =
    let w = c.args.self.now in
    let l = c.args.image.now in
    let g = given w l c.lent.result c.store.ensures.value c.lent.ensures c.in_err-store.was in
    let p = err_from_is_err_and c.from_residual.result c.from_residual.ensures.1 in
    record {
      value = rw (p.1, p.2) (sym g);
      self_after = sym (refused_work w l g);
      image_after = c.store.ensures.image_after ∙ image_of w l c.lent.result c.lent.ensures;
    }

pub overflow_add-self : goal.overflow_add-self
overflow_add-self c =
    let w = c.args.self.now in
    let l = c.args.image.now in
    let g = given w l c.lent.result c.store.ensures.value c.lent.ensures c.in_ok-store.was in
    omega (arith, left_below w (made_allowed w l g).some)

pub returns : goal.returns
returns c =
    let w = c.args.self.now in
    let l = c.args.image.now in
    let g = given w l c.lent.result c.store.ensures.value c.lent.ensures c.in_ok-store.was in
    record {
      value = sym g;
      self_after = sym (made_work w l g);
      image_after = c.store.ensures.image_after ∙ image_of w l c.lent.result c.lent.ensures;
    }
