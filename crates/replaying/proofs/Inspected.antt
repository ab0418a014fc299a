-- The verdict on a unit's own image and journal. Assumes nothing.
use mathlib.Core.Path.{◌≡◌, sym, ap, ap₂, ◌∙◌}
use Prim.Native.Nat.{ℕ, ◌+◌, ◌-◌, ◌*◌}
use native.Mathlib.Omega.{arith}
use mathlib.Core.Bool.{true, cond}
use mathlib.Core.List.{List, [], ◌∷◌, ◌++◌}
use lib.Dec.{eqb}
use lib.ListN.{length, get_or, take, drop, take-append-drop}
use lib.Seq.{get_or-drop, drop-drop, take_all}
use borrow.Author.Tests.{eq-eqb, le-ltb}
use Rattle.layout.specs.Sizes.{image_words, registers_at, nodes_at, register_count, register_words, current_register}
use Rattle.layout.specs.Words.{bytes4, bytes8, words_at}
use Rattle.layout.proofs.Bounded.{all_below_law}
use Rattle.journal.specs.Entries.{journal_bytes}
use Rattle.journal.specs.Journal.{ended}
use Rattle.opening.specs.Tasks.{Task}
use Rattle.opening.specs.Recorded.{entries_for}
use Rattle.history.specs.Calls.{step, run}
use Rattle.history.specs.Ledger.{Chain, register_rows, node_rows, state_of, any, disables, ledger_step, first_ledger}
use Rattle.history.specs.Demand.{AsCounted, after_cold_boot}
use Rattle.history.proofs.Demand.{demand3}
use Rattle.replaying.specs.Replay.{Replay, replay}
use Rattle.replaying.specs.Report.{compared_at, compared_rows, alike, registers_told, verdict, report, image_bytes, journal_max, output}
use Rattle.replaying.specs.Lives.{Life, history_of, entries_over, Alike}
use Rattle.replaying.specs.Unit.{unit_journal, Given, Inspected}
use Rattle.replaying.proofs.Lives.{replays}
use Rattle.replaying.proofs.Unit.{journal_append, cold_opened, records}

-- ---- words of an image that holds a chain's registers and nodes

pub image_rows : (image : List ℕ) (x : Chain) → take (register_count * register_words) (drop registers_at image) ≡ register_rows x → drop nodes_at image ≡ node_rows x
    → drop registers_at image ≡ register_rows x ++ node_rows x
image_rows image x r n =
    sym (take-append-drop (register_count * register_words) (drop registers_at image))
    ∙ ap₂ (λ (a b : List ℕ). a ++ b) r (drop-drop (register_count * register_words) registers_at image ∙ n)

pub compared_word : (image : List ℕ) (x : Chain) (k : ℕ) → drop registers_at image ≡ register_rows x ++ node_rows x
    → get_or image (compared_at + k) 0 ≡ get_or (compared_rows x) k 0
compared_word image x k e =
    let at = register_words * current_register in
    let split : compared_at + k ≡ registers_at + (at + k) = omega arith in
    ap (λ (n : ℕ). get_or image n 0) split
    ∙ sym (get_or-drop registers_at image (at + k) 0)
    ∙ ap (λ (l : List ℕ). get_or l (at + k) 0) e
    ∙ sym (get_or-drop at (register_rows x ++ node_rows x) k 0)

alike_image : (image : List ℕ) (x : Chain) → drop registers_at image ≡ register_rows x ++ node_rows x → alike image x ≡ true
unfolding alike
alike_image image x e =
    all_below_law (λ k. eqb (get_or image (compared_at + k) 0) (get_or (compared_rows x) k 0)) (image_words - compared_at)
    (λ k l. eq-eqb (get_or image (compared_at + k) 0) (get_or (compared_rows x) k 0) (compared_word image x k e))

-- ---- the verdict on a replay of the history

told : (image : List ℕ) (h : List Task) (x : Replay) → Alike x h → drop registers_at image ≡ register_rows (state_of h).chain ++ node_rows (state_of h).chain
    → verdict image x ≡ cond (any disables h) (1 ∷ []) (3 ∷ registers_told (state_of h).chain)
unfolding verdict
told image h x a e = rw (a.booted, a.off, a.chain, alike_image image (state_of h).chain e)

-- what the program writes for a whole image and a journal that is accepted
written : (input image journal : List ℕ) (x : Replay) → Given input image journal → replay journal ≡ ended x → output input ≡ bytes4 0 ++ (bytes8 0 ++ verdict image x)
unfolding output
written input image journal x g e =
    rw (le-ltb (length input) image_bytes g.whole)
    (ap (report (words_at image_words input 0))
    (ap (λ (l : List ℕ). replay (take journal_max l)) g.behind ∙ ap replay (take_all journal_max journal g.short) ∙ e)
    ∙ ap (λ (w : List ℕ). bytes4 0 ++ (bytes8 0 ++ verdict w x)) g.words)

pub inspected : Inspected
inspected earlier oks before x e calls ok torn quiet input given =
    let l : Life = record { boot = x; calls = calls } in
    let h = history_of l in
    let m = run step (after_cold_boot before x) calls in
    let r = replays earlier oks l (record { boot = (cold_opened before x e).1; calls = ok }) in
    let counted : AsCounted m.image (run ledger_step (first_ledger x) calls) = (demand3 before x e calls).counted torn quiet in
    let journal : journal_bytes (entries_over earlier) ++ unit_journal before x calls ≡ journal_bytes (entries_over earlier ++ entries_for h)
    = ap (λ (t : List ℕ). journal_bytes (entries_over earlier) ++ t) (records before x e calls) ∙ sym (journal_append (entries_over earlier) (entries_for h)) in
    written input m.image _ r.0 given (ap replay journal ∙ r.1)
    ∙ ap (λ (t : List ℕ). bytes4 0 ++ (bytes8 0 ++ t))
    (told m.image h r.0 r.2 (image_rows m.image (state_of h).chain counted.registers counted.nodes))
