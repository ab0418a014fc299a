-- Verdict 3 is given only to the image and the journal of what a unit can have done. Assumes nothing.
use mathlib.Core.Path.{◌≡◌, refl, sym, ap, ◌∙◌}
use Prim.Native.Nat.{ℕ, ◌+◌, ◌-◌, ◌≤◌, ◌<◌}
use native.Mathlib.Omega.{arith}
use native.Mathlib.Decide.{dec_lt}
use mathlib.Core.Bool.{Bool, true, false, cond, false≢true}
use mathlib.Core.List.{List, [], ◌∷◌, ◌++◌, append_assoc, append-nil}
use lib.Dec.{eqb}
use lib.ListN.{length, get_or, take, drop, take-append-drop}
use borrow.Author.Tests.{eqb-true, lt-ltb, le-ltb}
use Rattle.layout.specs.Sizes.{image_words}
use Rattle.layout.specs.Words.{bytes4, bytes8, words_at}
use Rattle.layout.proofs.Bounded.{all_at}
use Rattle.journal.specs.Entries.{Entry, journal_bytes}
use Rattle.journal.specs.Journal.{Walked, stopped, ended, walk, walk_for}
use Rattle.journal.specs.Statements.{Bytes}
use Rattle.journal.proofs.Bytes.{bytes_rest, bytes_front}
use Rattle.opening.specs.Recorded.{entries_for}
use Rattle.history.specs.Ledger.{Chain, state_of}
use Rattle.replaying.specs.Replay.{Replay, fresh, replay}
use Rattle.replaying.specs.Report.{compared_at, compared_rows, alike, registers_told, verdict, report, image_bytes, journal_max, output}
use Rattle.replaying.specs.Lives.{Life, LifeOk, LivesOk, history_of, entries_over}
use Rattle.replaying.specs.Unit.{Vouched, Vouches}
use Rattle.replaying.proofs.Lives.{replays, accepts}

-- ---- what is written tells how it came

-- the byte behind number and offset, and what follows it
behind : List ℕ → List ℕ
behind l = drop 12 l

first : List ℕ → ℕ
first [] = 0
first (x ∷ l) = x

-- the verdict 3 is one of a replay that is booted, on and alike
three : (image registers : List ℕ) (x : Replay) → verdict image x ≡ 3 ∷ registers
    → (x.booted ≡ true) × (x.off ≡ false) × (alike image x.contents.chain ≡ true)
unfolding verdict first
three image registers x e = go x.booted x.off (alike image x.contents.chain) (ap first e)
  where
    go : (b o a : Bool) → first (cond b (cond o (1 ∷ []) (cond a 3 2 ∷ registers_told x.contents.chain)) (0 ∷ [])) ≡ 3
        → (b ≡ true) × (o ≡ false) × (a ≡ true)
    go true false true q = (refl, refl, refl)
    go true false false q = absurd (omega arith)
    go true true a q = absurd (omega arith)
    go false o a q = absurd (omega arith)

-- ---- the lives of an accepted journal: earlier ones, and the last

last_life : (l : Life) (ls : List Life) → LifeOk l → LivesOk ls
    → (earlier : List Life) × (life : Life) × LivesOk earlier × LifeOk life × (entries_over (l ∷ ls) ≡ entries_over earlier ++ entries_for (history_of life))
last_life l [] ok oks = ([], l, tt, ok, append-nil (entries_for (history_of l)))
last_life l (m ∷ ls) ok oks =
    let r = last_life m ls oks.0 oks.1 in (
      l ∷ r.0,
      r.1,
      (ok, r.2),
      r.3,
      ap (λ (es : List Entry). entries_for (history_of l) ++ es) r.4 ∙ sym (append_assoc (entries_for (history_of l)) (entries_over r.0) (entries_for (history_of r.1))),
    )

-- ---- the theorem

end_of : Walked Replay → Replay
end_of (stopped n at) = fresh
end_of (ended x) = x

module _ (input registers : List ℕ) (s : Bytes input) (whole : image_bytes ≤ length input) where
  abbrev image : List ℕ
  image = words_at image_words input 0

  abbrev journal : List ℕ
  journal = take journal_max (drop image_bytes input)

  bytes : Bytes journal
  bytes =
      bytes_front journal (drop journal_max (drop image_bytes input)) (drop image_bytes input) (take-append-drop journal_max (drop image_bytes input))
      (bytes_rest (take image_bytes input) (drop image_bytes input) input (take-append-drop image_bytes input) s)

  -- words that are compared and alike
  compared : (c d : Chain) → alike image c ≡ true → c ≡ d → (k : ℕ) → k < image_words - compared_at
      → get_or image (compared_at + k) 0 ≡ get_or (compared_rows d) k 0
  unfolding alike
  compared c d a e k l =
      eqb-true (get_or image (compared_at + k) 0) (get_or (compared_rows d) k 0)
      (ap (λ (z : Chain). eqb (get_or image (compared_at + k) 0) (get_or (compared_rows z) k 0)) (sym e)
      ∙ all_at (λ k. eqb (get_or image (compared_at + k) 0) (get_or (compared_rows c) k 0)) (image_words - compared_at) k a l)

  -- a replay that ended with verdict 3
  alike_life : (x : Replay) → replay journal ≡ ended x → verdict image x ≡ 3 ∷ registers → Vouched input
  unfolding end_of walk walk_for
  alike_life x e v = by_lives ((accepts journal bytes).0 (x, e))
    where
      by_lives : (ls : List Life) × LivesOk ls × (journal ≡ journal_bytes (entries_over ls)) → Vouched input
      by_lives ([], oks, q) = absurd (false≢true (ap (λ (r : Walked Replay). (end_of r).booted) (sym (ap replay q) ∙ e) ∙ (three image registers x v).0))
      by_lives (l ∷ ls, oks, q) =
          let r = last_life l ls oks.0 oks.1 in
          let w = replays r.0 r.2 r.1 r.3 in
          let same : journal ≡ journal_bytes (entries_over r.0 ++ entries_for (history_of r.1)) = q ∙ ap journal_bytes r.4 in
          let y : w.0 ≡ x = ap end_of (sym w.1 ∙ sym (ap replay same) ∙ e) in
          let t = three image registers x v in
          record {
            whole = whole;
            earlier = r.0;
            life = r.1;
            earlier_ok = r.2;
            life_ok = r.3;
            journal = same;
            on = sym w.2.off ∙ ap (λ (z : Replay). z.off) y ∙ t.1;
            words = compared x.contents.chain (state_of (history_of r.1)).chain t.2 (sym (ap (λ (z : Replay). z.contents.chain) y) ∙ w.2.chain);
          }

  by_walk : (r : Walked Replay) → replay journal ≡ r → report image r ≡ bytes4 0 ++ (bytes8 0 ++ (3 ∷ registers)) → Vouched input
  unfolding behind
  by_walk (stopped n at) e q = absurd (omega (arith, ap length q))
  by_walk (ended x) e q = alike_life x e (ap behind q)

pub vouches : Vouches
unfolding output first
vouches input registers s e = elim (dec_lt (length input) image_bytes) [
  | yes l ↦ absurd (cut_short l)
  | no g ↦ by_walk input registers s (omega arith) (replay (take journal_max (drop image_bytes input))) refl
      (rw (le-ltb (length input) image_bytes (omega arith)) at e)
]
  where
    cut_short : length input < image_bytes → ⊥
    cut_short l = let q = rw (lt-ltb (length input) image_bytes l) at e in omega (arith, ap first q)
