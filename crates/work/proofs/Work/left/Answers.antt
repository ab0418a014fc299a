-- `Work::left` meets its contract: what is left of the work's parts is left of the work. Assumes nothing.
use mathlib.Core.Path.{ap, ◌∙◌}
use Rattle.work.specs.Entries.{left_of}
use Rattle.work.proofs.Parts.{left_storing}
use Rattle.work.proofs.Work.left.Goals as goal

pub returns : goal.returns
returns c = c.left.ensures ∙ ap left_of c.lent.ensures ∙ left_storing c.args.self.now
