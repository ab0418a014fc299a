-- The image that shows what a journal came to so far, and what an opening comes to on it. Assumes nothing.
use mathlib.Core.Path.{◌≡◌, refl, ap, ◌∙◌}
use Prim.Native.Nat.{ℕ, ◌≤◌, ◌<◌}
use native.Mathlib.Omega.{arith}
use mathlib.Core.Bool.{Bool, true, false, cond, not, true≢false}
use mathlib.Core.List.{List, [], ◌∷◌, ◌++◌}
use lib.ListN.{length}
use Rattle.layout.specs.Sizes.{image_words, answer_max}
use Rattle.layout.specs.Words.{zeros}
use Rattle.table.specs.declared.Put.{Put}
use Rattle.work.specs.Entries.{left_of}
use Rattle.work.proofs.Shape.{left_shaped}
use Rattle.work.proofs.Plans.{apply}
use Rattle.making.specs.Made.{work_with}
use Rattle.making.specs.Run.{all_stores}
use Rattle.making.proofs.After.{all_made}
use Rattle.opening.specs.Tasks.{Request, BootInputs, Task, accepted}
use Rattle.opening.specs.Rules.{inputs_ok, update_task}
use Rattle.opening.specs.Works.{work_at}
use Rattle.opening.proofs.Recorded.{Told}
use Rattle.opening.specs.Openings.{opened_of, booted_of, open_request, open_update_boot}
use Rattle.history.specs.Ledger.{state_of, image_of, any, disables, is_disable_command, is_off, view_of}
use Rattle.history.proofs.Good.{Good}
use Rattle.history.proofs.Runs.{plan_answer}
use Rattle.history.proofs.Ground.{attestation_word, image_after, Ground, sound, locked, broken, ground_length, stores_at, Fits, finish, ruling, rule_same, intact_same}
use Rattle.history.proofs.Sim.{opened_left}
use Rattle.replaying.specs.Replay.{Replay, fresh}
use Rattle.replaying.proofs.Converse.{replay_of}

-- zeros before the first cold boot; then registers and nodes, attestation's word by "was there a disabling", and the mark
abbrev pub shown : Replay → List ℕ
shown x = cond x.booted (image_of 1 (attestation_word x.off) x.contents) (zeros image_words)

-- what a journal can have come to: nothing yet, or what a unit's history comes to
pub data Reach (x : Replay) : Type 0 where
  unbooted : x ≡ fresh → Reach x
  booted : (h : List Task) → Good (state_of h).chain → any disables h ≡ any is_disable_command h → x ≡ replay_of h → Reach x

-- ---- where nothing was torn

-- what Ground says there
untorn : {l : List ℕ} {h : List Task} {t u : Bool} → Ground l h t u → t ≡ false → (l ≡ image_after h) × Reach (replay_of h)
untorn {l} {h} (sound g o e) q = (e, booted h g o refl)
untorn (locked n m s) q = absurd (true≢false q)
untorn (broken n m) q = absurd (true≢false q)

-- ---- openings, as the ledger decides them

module _ {l : List ℕ} {h : List Task} {t u : Bool} (here : Ground l h t u) where
  pub request_opens : (r : Request) → open_request l r ≡ opened_of l (ruling (view_of h t u) r)
  unfolding open_request ruling
  request_opens r = rw (ground_length here) (ap (opened_of l) (rule_same here r))

  pub update_opens : (x : BootInputs) → inputs_ok x ≡ true → open_update_boot l x true ≡ booted_of l (accepted (update_task (not (is_off h t)) true x) [])
  unfolding open_update_boot
  update_opens x i = rw (ground_length here, i, intact_same here)

  -- a work that may be opened there
  module _ (tk : Task) (a : List ℕ) (f : Fits h t u tk) (s : length a ≤ answer_max) (told : Told tk) where
    position : (work_at l tk a).position ≡ 0
    unfolding work_at work_with
    position = refl

    -- all its stores make the image of the history with it
    pub all_stored : t ≡ false → 0 < stores_at (state_of h).chain tk
        → ((all_stores (work_at l tk a) l).image ≡ image_after (h ++ (tk ∷ []))) × Reach (replay_of (h ++ (tk ∷ [])))
    all_stored q p =
        let w = untorn (finish here tk f p) q in
        let left : 0 < left_of (work_at l tk a) = omega (arith, opened_left here tk a f s told) in (
          all_made l (ground_length here) (work_at l tk a) (left_shaped (work_at l tk a) left) position
              ∙ ap (λ (ps : List Put). apply ps l) (plan_answer l tk a)
              ∙ w.0,
          w.1,
        )
