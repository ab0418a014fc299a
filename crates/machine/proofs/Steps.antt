-- A step that no buffer has a part in leaves the buffer as it was. Assumes nothing.
use mathlib.Core.Path.{◌≡◌, refl, sym, ap, ◌∙◌}
use Prim.Native.Nat.{ℕ}
use native.Mathlib.Omega.{arith}
use mathlib.Core.Bool.{Bool, true, false, cond}
use mathlib.Core.List.{List, [], ◌∷◌}
use mathlib.Core.Option.{some}
use Rattle.std.specs.Prelude.{Option, Some, None}
use lib.Dec.{eqb}
use lib.ListN.{length}
use Rattle.work.specs.declared.Work.{Work}
use Rattle.history.specs.Calls.{Machine, Step, Result, refusal, opened, booted, stored, answered, recorded, no_work, cut_off}
use Rattle.machine.specs.Call.{hand_of, machine_of, result_of, step_of, Makes, buffer_after}
use Rattle.machine.specs.declared.InHand.{InHand}
use Rattle.machine.specs.declared.Report.{Report}
use Rattle.machine.specs.declared.Report.TheVariants.{Refused, Opened, Booted, Stored, Answered, Recorded, NoWork, CutOff}
use Rattle.machine.specs.declared.Made.{Made}

-- the buffer of an answer or an entry
buffer_in : Result → List ℕ
buffer_in (refusal n) = []
buffer_in (opened k n a) = []
buffer_in (booted o k n) = []
buffer_in (stored n) = []
buffer_in (answered n w b) = b
buffer_in (recorded n w b) = b
buffer_in no_work = []
buffer_in cut_off = []

same_buffer : (hand : Option InHand) (r : Report) (x : Result) → ((b : List ℕ) → result_of hand r b ≡ x) → (b : List ℕ) → buffer_after x b ≡ b
unfolding result_of buffer_after buffer_in
same_buffer hand (Refused n) x e b = ap (λ (y : Result). buffer_after y b) (sym (e b))
same_buffer (Some h) (Opened n) x e b = ap (λ (y : Result). buffer_after y b) (sym (e b))
same_buffer None (Opened n) x e b = ap (λ (y : Result). buffer_after y b) (sym (e b))
same_buffer (Some h) (Booted o n) x e b = ap (λ (y : Result). buffer_after y b) (sym (e b))
same_buffer None (Booted o n) x e b = ap (λ (y : Result). buffer_after y b) (sym (e b))
same_buffer hand (Stored n) x e b = ap (λ (y : Result). buffer_after y b) (sym (e b))
same_buffer hand (Answered n w) x e b =
    let z : ◌≡◌ {A = List ℕ} [] (0 ∷ []) = ap buffer_in (e [] ∙ sym (e (0 ∷ []))) in
    absurd (omega (arith, ap length z))
same_buffer hand (Recorded n w) x e b =
    let z : ◌≡◌ {A = List ℕ} [] (0 ∷ []) = ap buffer_in (e [] ∙ sym (e (0 ∷ []))) in
    absurd (omega (arith, ap length z))
same_buffer hand NoWork x e b = ap (λ (y : Result). buffer_after y b) (sym (e b))
same_buffer hand CutOff x e b = ap (λ (y : Result). buffer_after y b) (sym (e b))

-- with the step, what is said of any buffer
pub made : (m : Made) (image : List ℕ) (s : Step Machine) → Makes m image s → (b : List ℕ) → (step_of m image b ≡ s) × (b ≡ buffer_after s.result b)
unfolding step_of
made m image s e b =
    (e b, sym (same_buffer m.hand m.report s.result (λ c. ap (λ (x : Step Machine). x.result) (e c)) b))

-- a store: its number decides what is reported
pub store_step : (w : Work) (boot : Bool) (number left : ℕ) (image buffer : List ℕ)
    → step_of (record {
      hand = Some (record { work = w; boot = boot });
      report = cond (eqb number 0) (Stored left) (Refused number);
    }) image buffer
    ≡ record {
      state = record { image = image; hand = some (record { work = w; boot = boot }) };
      result = cond (eqb number 0) (stored left) (refusal number);
    }
unfolding step_of machine_of hand_of result_of
store_step w boot number left image buffer = go (eqb number 0)
  where
    go : (b : Bool) → step_of (record { hand = Some (record { work = w; boot = boot }); report = cond b (Stored left) (Refused number) }) image buffer
        ≡ record { state = record { image = image; hand = some (record { work = w; boot = boot }) }; result = cond b (stored left) (refusal number) }
    go true = refl
    go false = refl
