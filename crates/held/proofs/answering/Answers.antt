-- `answering` meets its contract: each field is read from the words. Assumes nothing.
use Rattle.layout.specs.Words.{zeros}
use Rattle.flat.specs.Flat.{work_of, answering_of}
use Rattle.held.proofs.answering.Goals as goal

pub returns : goal.returns
unfolding work_of answering_of zeros
returns c =
    rw (
      c.answer_len_in.ensures,
      c.position_in.ensures,
      c.answer_in-answer.ensures,
      c.node_in-node.ensures,
      c.kind_in-kind.ensures,
    )
