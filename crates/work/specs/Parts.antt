-- A work from its parts, where they stand apart: what a store looks at, and what an entry's taking looks at. Assumes nothing.
use Rattle.std.specs.Prelude.{ℕ, List, []}
use Rattle.table.specs.declared.Kind.{Kind}
use Rattle.work.specs.declared.Work.{Work}
use Rattle.work.specs.declared.lent.Lent.{Lent}

-- kind, position, answer's length and the four fields of prepared words; of the answer and of the inputs no byte
abbrev pub storing : Kind → ℕ → ℕ → List ℕ → List ℕ → List ℕ → List ℕ → Work
storing kind position len register journey node secret =
    record {
      kind = kind;
      position = position;
      register = register;
      journey = journey;
      node = node;
      secret = secret;
      answer = [];
      answer_len = len;
      inputs = [];
    }

-- the work that lent parts are
abbrev pub lent_work : Lent → Work
lent_work l = storing l.kind l.position l.answer_len l.words.register.now l.words.journey.now l.words.node.now l.words.secret.now

-- the same with the node's words alone, which hold a destroy's indices: the stores left do not depend on the others
abbrev pub standing : Kind → ℕ → ℕ → List ℕ → Work
standing kind position len node = storing kind position len [] [] node []

-- what an entry's taking looks at: kind, position, answer's length, the new node and the inputs
abbrev pub recording : Kind → ℕ → ℕ → List ℕ → List ℕ → Work
recording kind position len node inputs =
    record {
      kind = kind;
      position = position;
      register = [];
      journey = [];
      node = node;
      secret = [];
      answer = [];
      answer_len = len;
      inputs = inputs;
    }
