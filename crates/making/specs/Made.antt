-- Works as an opening makes them: the values to be stored and the inputs to be told, the position, the prepared answer (document 01, "Work, one word at a time"). Assumes nothing.
use Rattle.std.specs.Prelude.{ℕ, ◌-◌, List, ◌++◌, length}
use Rattle.layout.specs.Sizes.{node_words, register_words, answer_max, input_bytes}
use Rattle.layout.specs.Words.{zeros}
use Rattle.table.specs.declared.Kind.{Kind}
use Rattle.table.specs.declared.Kind.TheVariants.{Nothing}
use Rattle.work.specs.declared.Work.{Work}
use Rattle.making.specs.declared.Values.{Values}
use Rattle.layout.specs.declared.bytes.Bytes.{Bytes}
use Rattle.work.specs.Entries.{work_from}

-- words that a kind does not store are zero, and so are the inputs of a kind that has none to tell
abbrev pub no_values : Values
no_values =
    record {
      register = zeros register_words;
      journey = zeros register_words;
      node = zeros node_words;
      secret = zeros register_words;
      inputs = zeros input_bytes;
    }

-- an answer in the work's array: bytes past it are zero
abbrev pub answer_in : List ℕ → Bytes answer_max
answer_in a = record { bytes = a ++ zeros (answer_max - length a); len = length a }

abbrev pub no_answer : Bytes answer_max
no_answer = record { bytes = zeros answer_max; len = 0 }

abbrev pub made_work : Kind → ℕ → Values → Bytes answer_max → Work
made_work k position v a = work_from k position v.register v.journey v.node v.secret a.bytes a.len v.inputs

-- a work of which no store is made, with the answer a
unfoldable pub work_with : Kind → Values → List ℕ → Work
work_with k v a = made_work k 0 v (answer_in a)

-- one that stores no prepared word
abbrev pub plain_work : Kind → List ℕ → Work
plain_work k a = work_with k no_values a

-- the work beside a refusal: nothing to store and a position past that, so that it gets 9 at a store and 7 at an answer
unfoldable pub refused_work : Work
refused_work = made_work Nothing 1 no_values no_answer
