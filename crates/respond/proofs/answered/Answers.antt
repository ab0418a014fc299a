-- After all its stores the work is finished; its answer is taken whole, and is the one that it had at its opening.
use Prim.Native.Nat.{ℕ, ◌-◌}
use mathlib.Core.List.{List}
use native.Mathlib.Omega.{arith}
use mathlib.Core.Path.{◌≡◌, sym, ap, subst, ◌∙◌}
use mathlib.Core.Bool.{true}
use lib.ListN.{length, replicate}
use borrow.Rule.Slice.PartMut.{put_mid}
use Rattle.layout.specs.Sizes.{answer_max}
use Rattle.work.specs.declared.Work.{Work}
use Rattle.work.specs.Entries.{finished}
use Rattle.making.specs.Run.{all_stores}
use Rattle.std.proofs.Common.{Ok}
use Rattle.work.proofs.Answered.{got}
use Rattle.making.proofs.After.{SameAnswer, all_answer}
use Rattle.respond.specs.Program.{response_max}
use Rattle.respond.proofs.Output.{response_with, fits, taken, answered_output}
use borrow.Author.Rules.{rules}
use Rattle.respond.proofs.answered.Goals as goal

-- what `run_all` leaves of the work is finished
ended : (w v : Work) (l : List ℕ) → v ≡ (all_stores w l).work → finished (all_stores w l).work ≡ true → finished v ≡ true
ended w v l e h = ap finished e ∙ h

pub unwrap-n-requires : goal.unwrap-n-requires
unwrap-n-requires c =
    let done = c.run_all-done.result in
    let end = ended c.args.work done c.args.image c.run_all-done.ensures.value c.requires in
    let given : c.answer.result ≡ Ok done.answer_len = c.answer.ensures.value ∙ taken done end in
    rw given

pub with_result-requires : goal.with_result-requires
with_result-requires c =
    let done = c.run_all-done.result in
    let end = ended c.args.work done c.args.image c.run_all-done.ensures.value c.requires in
    let n : c.unwrap-n.result ≡ done.answer_len = ap got (sym c.unwrap-n.ensures ∙ c.answer.ensures.value ∙ taken done end) in
    omega (arith, n, fits done end)

pub returns : goal.returns
returns c =
    let a = c.args in
    let done = c.run_all-done.result in
    let end = ended a.work done a.image c.run_all-done.ensures.value c.requires in
    let same = subst (λ (x : Work). SameAnswer x a.work) (sym c.run_all-done.ensures.value) (all_answer a.work a.image) in
    -- by the field's type
    let long : length done.answer ≡ answer_max = search rules in
    let buffer = c.answer.new.buffer in
    let n : c.unwrap-n.result ≡ done.answer_len = ap got (sym c.unwrap-n.ensures ∙ c.answer.ensures.value ∙ taken done end) in
    c.with_result.ensures
    ∙ ap (λ (k : ℕ). response_with 0 k (put_mid 4 (response_max - 4) (replicate response_max 0) buffer)) n
    ∙ answered_output done end a.work same long buffer c.answer.ensures.buffer_after
