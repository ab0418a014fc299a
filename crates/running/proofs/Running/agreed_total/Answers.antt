-- `running::Running::agreed_total` meets its contract: the two tests of the definition, in its order. Assumes nothing.
use borrow.Author.Tests.{eq-eqb, ne_eqb, le-leb, lt-leb}
use native.Mathlib.Omega.{arith}
use Prim.Native.Nat.{◌%◌}
use Rattle.running.specs.Running.{longest_total, agree}
use Rattle.running.proofs.Running.agreed_total.Goals.{else-self-via-then-self+else-self-le-LONGEST_TOTAL, else-self-via-else-self}
use Rattle.running.proofs.Running.agreed_total.Goals as goal

pub returns-then-self-le-LONGEST_TOTAL : goal.returns-then-self-le-LONGEST_TOTAL
unfolding agree
returns-then-self-le-LONGEST_TOTAL c =
    let st = c.args.self.now in
    rw (eq-eqb st.waiting (st.total % 128) c.if-self.true, le-leb st.total longest_total c.if-self-le-LONGEST_TOTAL.true)

pub returns-else-self : goal.returns-else-self
unfolding agree
returns-else-self c =
    let st = c.args.self.now in
    elim c.else-self.branch [
      | else-self-via-then-self+else-self-le-LONGEST_TOTAL w ↦
          rw (eq-eqb st.waiting (st.total % 128) w.if-self.true, lt-leb st.total longest_total w.if-self-le-LONGEST_TOTAL.false)
      | else-self-via-else-self w ↦ rw (ne_eqb st.waiting (st.total % 128) w.if-self.false)
    ]
