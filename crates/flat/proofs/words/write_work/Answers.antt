-- `write_work` meets its contract: the row that is written is the work's, and what is written is read back (Back), as arrays of bytes
-- hold bytes. Assumes nothing.
use Prim.Native.Nat.{ℕ}
use native.Mathlib.Omega.{arith}
use mathlib.Core.Path.{◌≡◌, ap, ◌∙◌}
use mathlib.Core.List.{List}
use lib.ListN.{length-set}
use Rattle.layout.proofs.Tab.{tab_none, tab_more}
use Rattle.flat.specs.Flat.{PartsLong, work_size, head_of, row_of, work_words, work_of}
use Rattle.flat.proofs.Back.{Typed, work_back}
use Rattle.flat.proofs.Rows.{row_filled}
use borrow.Author.Rules.{rules}
use Rattle.flat.proofs.words.write_work.Goals as goal

pub loop-k-init : goal.loop-k-init
loop-k-init c = (search rules, search rules, tab_none _)

pub loop-k-preserved : goal.loop-k-preserved
loop-k-preserved c = let l = c.loop-k in
    (omega arith, simp length-set l.invariant.1, tab_more _ l.out l.k c.row_word.result (omega arith) c.row_word.ensures l.invariant.2)

pub returns : goal.returns
unfolding work_words head_of
returns c =
    let w = c.args.w in
    let l = c.loop-k in
    let done : l.k ≡ work_size = omega arith in
    -- by the types of the work's fields
    let t : Typed w =
    record {
      register_long = search rules;
      journey_long = search rules;
      node_long = search rules;
      secret_long = search rules;
      answer_long = search rules;
      answer_small = search rules;
      inputs_long = search rules;
      inputs_small = search rules;
    } in
    let long : PartsLong c.head_of-head.result w.register w.journey w.node w.secret =
    record {
      head_long = search rules;
      register_long = search rules;
      journey_long = search rules;
      node_long = search rules;
      secret_long = search rules;
    } in
    let e =
    row_filled _ _ _ _ _ _ _ long l.out l.invariant.1 (rw done at l.invariant.2)
    ∙ ap (λ (x : List ℕ). row_of x w.register w.journey w.node w.secret w.answer w.inputs) c.head_of-head.ensures in
    record { out_after = e; out_after_2 = ap work_of e ∙ work_back w t }
