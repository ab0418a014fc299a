-- A slice more, and what the last one comes to.
use Rattle.std.proofs.Common.{rules, arith, ◌≡◌, length, take}
use Rattle.sha384sum.proofs.Feeding.{at_first, accepted, one_more, refused, ended}
use Rattle.sha384sum.proofs.take_input.Goals as goal

pub loop-i-init : goal.loop-i-init
loop-i-init g c = (search rules, at_first _ _ c.begin-state.ensures)

pub returns-in_err-feed-clause-too_long : goal.returns-in_err-feed-clause-too_long
returns-in_err-feed-clause-too_long g c =
    λ _. refused _ _ (g.R.Read.remaining c.read_whole.new.reader) _ c.loop-i.state (take c.in_ok-n.n c.read_whole.new.buf) c.in_err-feed.field-0.0
    c.loop-i.invariant.1 (search rules) c.in_err-feed.ensures.err (search rules)

pub returns-then-n-lt-SLICE-clause-digest : goal.returns-then-n-lt-SLICE-clause-digest
returns-then-n-lt-SLICE-clause-digest g c =
    let after = g.R.Read.remaining c.read_whole.new.reader in
    ended _ after _ c.feed.new.self
    (accepted _ _ after _ c.loop-i.state (take c.in_ok-n.n c.read_whole.new.buf) c.feed.new.self c.loop-i.invariant.1 (search rules) c.in_ok-feed.ensures.ok
    (search rules)) (search rules)

pub loop-i-preserved : goal.loop-i-preserved
loop-i-preserved g c =
    let m = take c.in_ok-n.n c.read_whole.new.buf in
    let full : length m ≡ 65280 = search rules in (
      search rules,
      one_more _ _ (g.R.Read.remaining c.read_whole.new.reader) _ _ c.loop-i.state m c.feed.new.self c.loop-i.invariant.1 (search rules)
          c.in_ok-feed.ensures.ok (search rules) (omega arith),
    )
