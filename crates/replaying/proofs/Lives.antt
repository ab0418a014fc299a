-- The journal of any lives is accepted and gives the last one's registers and chain; and nothing else is accepted. Assumes nothing.
use mathlib.Core.Path.{◌≡◌, refl, sym, ap, ◌∙◌, subst}
use mathlib.Core.List.{List, [], ◌∷◌, ◌++◌}
use Rattle.journal.specs.Entries.{Entry, EntriesOk, journal_bytes}
use Rattle.journal.specs.Journal.{ended}
use Rattle.journal.specs.Statements.{Bytes}
use Rattle.journal.proofs.Journal.{walk_journal}
use Rattle.opening.specs.Recorded.{entries_for}
use Rattle.replaying.specs.Replay.{Replay, fresh, count, replay}
use Rattle.replaying.specs.Lives.{Life, LivesOk, history_of, entries_over, Replays, Accepts}
use Rattle.replaying.proofs.Counts.{CountsTo, counts_append, counts_ended, ended_counts}
use Rattle.replaying.proofs.Honest.{history_counts}
use Rattle.replaying.proofs.Fits.{ok_append, history_fits}
use Rattle.replaying.proofs.Accepted.{walk_written}
use Rattle.replaying.proofs.Converse.{lived}

-- ---- lives count

lives_count : (ls : List Life) (x : Replay) → (y : Replay) × CountsTo x (entries_over ls) y
lives_count [] x = (x, refl)
lives_count (l ∷ ls) x =
    let w = history_counts x l.boot l.calls in
    let r = lives_count ls w.end in
    (r.0, counts_append x (entries_for (history_of l)) (entries_over ls) w.end r.0 w.counts r.1)

lives_fit : (ls : List Life) → LivesOk ls → EntriesOk (entries_over ls)
lives_fit [] ok = tt
lives_fit (l ∷ ls) ok = ok_append (entries_for (history_of l)) (entries_over ls) (history_fits l ok.0) (lives_fit ls ok.1)

-- entries that count are accepted
accepted : (es : List Entry) (y : Replay) → EntriesOk es → CountsTo fresh es y → replay (journal_bytes es) ≡ ended y
accepted es y ok c = walk_journal count es 0 fresh ok ∙ counts_ended 0 fresh es y c

pub replays : Replays
replays earlier oks l ok =
    let before = lives_count earlier fresh in
    let w = history_counts before.0 l.boot l.calls in (
      w.end,
      accepted (entries_over earlier ++ entries_for (history_of l)) w.end
          (ok_append (entries_over earlier) (entries_for (history_of l)) (lives_fit earlier oks) (history_fits l ok))
          (counts_append fresh (entries_over earlier) (entries_for (history_of l)) before.0 w.end before.1 w.counts),
      w.alike,
    )

-- ---- what is accepted

pub accepts : Accepts
accepts journal s = (forth, back)
  where
    forth : (x : Replay) × (replay journal ≡ ended x) → (ls : List Life) × LivesOk ls × (journal ≡ journal_bytes (entries_over ls))
    forth a =
        let w = walk_written count 0 fresh a.0 journal s a.1 in
        let c = ended_counts 0 fresh w.0 a.0 (sym (walk_journal count w.0 0 fresh w.2) ∙ ap replay w.1 ∙ a.1) in
        let r = lived a.0 w.0 w.2 (subst Bytes (sym w.1) s) c in
        (r.0, r.1, sym w.1 ∙ ap journal_bytes r.2)

    back : (ls : List Life) × LivesOk ls × (journal ≡ journal_bytes (entries_over ls)) → (x : Replay) × (replay journal ≡ ended x)
    back a =
        let r = lives_count a.0 fresh in
        (r.0, ap replay a.2 ∙ accepted (entries_over a.0) r.0 (lives_fit a.0 a.1) r.1)
