-- `row_word` meets its contract: a return for each part, by the laws of Rows. Assumes nothing.
use native.Mathlib.Omega.{arith}
use mathlib.Core.Path.{◌≡◌, sym, ◌∙◌}
use Rattle.flat.proofs.Rows.{at_head, at_register, at_journey, at_node, at_secret, at_answer, at_inputs, at_end}
use Prim.Native.Nat.{ℕ}
use mathlib.Core.List.{List}
use lib.ListN.{length}
use borrow.Author.Rules.{rules}
use Rattle.layout.specs.Sizes.{register_words, node_words}
use Rattle.work.specs.declared.Work.{Work}
use Rattle.flat.specs.Flat.{register_word, PartsLong}
use Rattle.flat.proofs.words.row_word.Goals as goal

long : (head : List ℕ) (w : Work) → length head ≡ register_word → length w.register ≡ register_words → length w.journey ≡ register_words → length w.node ≡ node_words
    → length w.secret ≡ register_words → PartsLong head w.register w.journey w.node w.secret
long head w a b c d e = record { head_long = a; register_long = b; journey_long = c; node_long = d; secret_long = e }

pub returns-then-k-lt-REGISTER_IN : goal.returns-then-k-lt-REGISTER_IN
returns-then-k-lt-REGISTER_IN c =
    let g = c in
    c.word.ensures ∙ sym (at_head _ _ _ _ _ _ _ (long g.args.head.now g.args.w.now (search rules) (search rules) (search rules) (search rules) (search rules)) g.args.k (omega arith))

pub returns-then-k-lt-JOURNEY_IN : goal.returns-then-k-lt-JOURNEY_IN
returns-then-k-lt-JOURNEY_IN c =
    let g = c in
    c.word-then-k-lt-JOURNEY_IN.ensures ∙ sym (at_register _ _ _ _ _ _ _ (long g.args.head.now g.args.w.now (search rules) (search rules) (search rules) (search rules) (search rules)) g.args.k (omega arith) (omega arith))

pub returns-then-k-lt-NODE_IN : goal.returns-then-k-lt-NODE_IN
returns-then-k-lt-NODE_IN c =
    let g = c in
    c.word-then-k-lt-NODE_IN.ensures ∙ sym (at_journey _ _ _ _ _ _ _ (long g.args.head.now g.args.w.now (search rules) (search rules) (search rules) (search rules) (search rules)) g.args.k (omega arith) (omega arith))

pub returns-then-k-lt-SECRET_IN : goal.returns-then-k-lt-SECRET_IN
returns-then-k-lt-SECRET_IN c =
    let g = c in
    c.word-then-k-lt-SECRET_IN.ensures ∙ sym (at_node _ _ _ _ _ _ _ (long g.args.head.now g.args.w.now (search rules) (search rules) (search rules) (search rules) (search rules)) g.args.k (omega arith) (omega arith))

pub returns-then-k-lt-ANSWER_IN : goal.returns-then-k-lt-ANSWER_IN
returns-then-k-lt-ANSWER_IN c =
    let g = c in
    c.word-then-k-lt-ANSWER_IN.ensures ∙ sym (at_secret _ _ _ _ _ _ _ (long g.args.head.now g.args.w.now (search rules) (search rules) (search rules) (search rules) (search rules)) g.args.k (omega arith) (omega arith))

pub returns-then-k-lt-INPUTS_IN : goal.returns-then-k-lt-INPUTS_IN
returns-then-k-lt-INPUTS_IN c =
    let g = c in
    c.read32.ensures ∙ sym (at_answer _ _ _ _ _ _ _ (long g.args.head.now g.args.w.now (search rules) (search rules) (search rules) (search rules) (search rules)) g.args.k (omega arith) (omega arith))

pub returns-then-k-lt-WORK_WORDS : goal.returns-then-k-lt-WORK_WORDS
returns-then-k-lt-WORK_WORDS c =
    let g = c in
    c.read32-then-k-lt-WORK_WORDS.ensures ∙ sym (at_inputs _ _ _ _ _ _ _ (long g.args.head.now g.args.w.now (search rules) (search rules) (search rules) (search rules) (search rules)) g.args.k (omega arith) (omega arith))

pub returns : goal.returns
returns c =
    let g = c in
    sym (at_end _ _ _ _ _ _ _ (long g.args.head.now g.args.w.now (search rules) (search rules) (search rules) (search rules) (search rules)) g.args.k (omega arith))
