-- `put_at` meets its contract: where both tests pass the row has the store (`store_at_law`); where one fails, so does the definition's, and word 0 is
-- within the image. Assumes nothing.
use native.Mathlib.Omega.{arith}
use mathlib.Core.Path.{sym, ◌∙◌}
use borrow.Author.Tests.{le-ltb}
use Rattle.layout.proofs.Cases.{told}
use Rattle.table.specs.Table.{number_of, store_at}
use Rattle.table.proofs.ByKind.{store_at_law}
use Rattle.table.proofs.put_at.Goals as goal
use Rattle.table.proofs.put_at.Goals.{else-index_ok-via-then-index_ok+else-k-number, else-index_ok-via-else-index_ok}

pub row_of-requires : goal.row_of-requires
row_of-requires c =
    told c.index_ok.ensures c.if-index_ok.true

pub returns-then-k-number : goal.returns-then-k-number
returns-then-k-number c =
    let a = c.args in record {
      value = c.put.ensures.value
          ∙ c.row_of.ensures
          ∙ sym (store_at_law a.kind a.k _ _ _ _ (told c.index_ok.ensures c.if-index_ok.true)
          (omega (arith, c.number.ensures)));
      address_lt_image_words = c.put.ensures.address_lt_image_words;
    }

pub returns-clause-value : goal.returns-clause-value
unfolding store_at
returns-clause-value c = elim c.else-index_ok.branch [
  | else-index_ok-via-then-index_ok+else-k-number w ↦ rw (told c.index_ok.ensures w.if-index_ok.true, le-ltb c.args.k (number_of c.args.kind) (omega (arith, w.number.ensures)))
  | else-index_ok-via-else-index_ok w ↦ rw (told c.index_ok.ensures w.if-index_ok.false)
]
