-- A field that is passed.
use mathlib.Core.Path.{sym, ◌∙◌}
use native.Mathlib.Omega.{arith}
use Rattle.layout.proofs.Cases.{told}
use Rattle.table.proofs.Passing.{passed, not_found}
use Rattle.table.proofs.row.Row.field.Goals as goal

pub returns : goal.returns
returns g c = λ s gives rest.
    let a = c.args in
    passed (record { count = a.count; store = s }) rest a.self.before (omega arith)
    ∙ sym (not_found a.self.found _ (told c.is_some.ensures c.if-is_some.false))
