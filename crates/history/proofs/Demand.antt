-- Demand 3: every list of calls and power cuts. A cold boot's stores make the first Ground (`cold_start`); by Sim machine and ledger stay in step; what
-- Ground says of the image is the promise, and once it is shut no store opens it (`shut_run`). Assumes nothing.
use mathlib.Core.Path.{◌≡◌, refl, sym, ap, ◌∙◌, subst}
use Prim.Native.Nat.{ℕ, suc, ◌-◌, ◌*◌}
use native.Mathlib.Omega.{arith}
use mathlib.Core.Bool.{Bool, true, false, cond, not, ◌||◌, true≢false, false≢true}
use mathlib.Core.List.{List, [], ◌∷◌, ◌++◌}
use mathlib.Core.Option.{Option, none, some}
use lib.Dec.{eqb, ltb}
use borrow.Author.Tests.{eqb-true}
use lib.ListN.{length, get_or, set, take, drop}
use Rattle.std.specs.Prelude.{⊤, Result, Ok, Err}
use Rattle.layout.specs.Sizes.{image_words, mark_at, attestation_at, secret_at, registers_at, nodes_at, register_count, register_words}
use Rattle.layout.specs.Words.{words48, part}
use Rattle.layout.specs.Refusals as number
use Rattle.layout.specs.declared.refusals.Refusal.{Refusal}
use Rattle.layout.specs.declared.refusals.Refusal.TheVariants as refusal
use Rattle.layout.proofs.Cases.{and_right}
use Rattle.table.specs.Table.{put, number_of, index_ok}
use Rattle.work.specs.Entries.{put_of}
use Rattle.work.specs.Entries.{well_shaped, left_of}
use Rattle.making.specs.Run.{all_stores}
use Rattle.making.specs.Made.{work_with}
use Rattle.table.specs.declared.Put.{Put}
use Rattle.work.specs.declared.Work.{Work}
use Rattle.work.proofs.Plans.{length_apply, put_plan}
use Rattle.making.proofs.After.{store_made, store_refused, all_made}
use Rattle.opening.specs.Tasks.{BootInputs, Task, cold_boot, Ruling, refused, accepted}
use Rattle.opening.specs.Rules.{inputs_ok}
use Rattle.opening.specs.Works.{work_at}
use Rattle.opening.specs.Openings.{booted_of, open_cold_boot, open_request, open_update_boot, boot_number, stored_by, cold_booted}
use Rattle.opening.specs.declared.Outcome.{Outcome}
use Rattle.history.specs.Calls.{Call, request, update_boot, store, answer, entry, power_cut, refusal, stored, Hand, Machine, Step, after_request, after_boot, after_store, step, run, results}
use Rattle.history.specs.Ledger.{Contents, Job, Ledger, blank, next, state_of, register_rows, node_rows, image_of, any, disables, is_disable_command, tears, view_of, let_go, ledger_request, ledger_boot, update_ruling, ledger_store, ledger_step, first_ledger}
use Rattle.history.specs.Demand.{Shut, was_accepted, boot_ended, ends_boot, AsCounted, Kept, is_under_way, Holds, after_cold_boot, Demand3}
use Rattle.history.proofs.Encoded.{mark_read, attestation_read, secret_read}
use Rattle.history.proofs.Good.{Good, good_cold}
use Rattle.history.proofs.Stores.{registers_part, nodes_part}
use Rattle.history.proofs.Runs.{plan_at, off_plan, shut_store, counted, run_cold}
use Rattle.history.proofs.Ground.{Ground, sound, locked, broken, attestation_word, image_after, ground_length, torn_plan, ruling}
use Rattle.history.proofs.Sim.{release, carried_left, Inv, empty, done, going, Related, sim, sim_run}

-- ---- between works the image keeps the promise

module _ (l : List ℕ) (h : List Task) (g : Good (state_of h).chain) (e : l ≡ image_after h) where
  attestation_word_law : get_or l attestation_at 0 ≡ attestation_word (any disables h)
  attestation_word_law = ap (λ (y : List ℕ). get_or y attestation_at 0) e ∙ attestation_read 1 (attestation_word (any disables h)) (state_of h)

  counted_sound : (b : Ledger) → b.history ≡ h → b.torn ≡ false → b.unfinished ≡ false → AsCounted l b
  counted_sound b p q u =
      record {
        mark = ap (λ (y : List ℕ). get_or y mark_at 0) e ∙ mark_read 1 a s ∙ sym (rw u);
        attestation = attestation_word_law ∙ sym (rw (q, p));
        registers =
            ap (λ (y : List ℕ). take (register_count * register_words) (drop registers_at y)) e ∙ registers_part 1 a s (counted s.chain g)
            ∙ ap (λ (y : List Task). register_rows (state_of y).chain) (sym p);
        nodes = ap (drop nodes_at) e ∙ nodes_part 1 a s (counted s.chain g) ∙ ap (λ (y : List Task). node_rows (state_of y).chain) (sym p);
        secret = ap (λ (y : List ℕ). part register_words y secret_at) e ∙ secret_read 1 a s ∙ ap (λ (y : List Task). words48 (state_of y).secret) (sym p);
      }
    where
      a : ℕ
      a = attestation_word (any disables h)

      s : Contents
      s = state_of h

counted_ground : {l : List ℕ} {b : Ledger} {h : List Task} {t u : Bool} → Ground l h t u → b.history ≡ h → b.torn ≡ t → b.unfinished ≡ u → t ≡ false
    → AsCounted l b
counted_ground {l} {b} {h} (sound g o e) p q r z = counted_sound l h g e b p q r
counted_ground (locked n m s) p q r z = absurd (true≢false z)
counted_ground (broken n m) p q r z = absurd (true≢false z)

kept_ground : {l : List ℕ} {b : Ledger} {h : List Task} {t u : Bool} → Ground l h t u → u ≡ false → b.history ≡ h → b.torn ≡ t → b.unfinished ≡ u → Kept l b
kept_ground {l} {b} {h} (sound g o e) z p q r =
    record {
      size = ground_length (sound g o e);
      torn = λ c. absurd (true≢false (sym c ∙ q));
      on = λ c. (
        λ x. ap (any is_disable_command) p ∙ sym o ∙ is_on (any disables h) (sym (attestation_word_law l h g e) ∙ x),
        λ x. attestation_word_law l h g e ∙ ap attestation_word (o ∙ sym (ap (any is_disable_command) p) ∙ x),
      );
      counted = λ c. counted_sound l h g e b p q r;
    }
  where
    is_on : (x : Bool) → attestation_word x ≡ 1 → x ≡ false
    is_on true k = absurd (omega arith)
    is_on false k = refl
kept_ground {l} {b} (locked n m s) z p q r =
    record { size = n; torn = λ c. s; on = λ c. absurd (false≢true (sym c ∙ q)); counted = λ c. absurd (false≢true (sym c ∙ q)) }
kept_ground (broken n m) z p q r = absurd (true≢false z)

-- nothing torn, and the work in hand would not tear
at_rest : (m : Machine) (b : Ledger) → Related m b → b.torn ≡ false → is_under_way b ≡ false → AsCounted m.image b
at_rest m b i q v = counted_ground {b = b} (release i) refl (q ∙ sym none_torn) refl none_torn
  where
    none_torn : (b.torn || tears b.hand b.made) ≡ false
    none_torn = rw (q, v)

-- ---- where an update boot ends, no work is in its middle

settled : {l : List ℕ} {w : Option Hand} {h : List Task} {d : Option Job} {k : ℕ} {t u : Bool} → Inv l w h d k t u → boot_ended w ≡ true
    → Ground l h t u × (u ≡ false)
settled (empty g) e = absurd (false≢true e)
settled (done g a c b) e = (g, refl)
settled (going {p = p} {j = j} {k} base v g f w n q x y b) e =
    let z : left_of p.work ≡ 0 = eqb-true (left_of p.work) 0 (and_right p.boot (eqb (left_of p.work) 0) e) in
    absurd (omega (arith, carried_left p.work j k w.carried (omega arith)))

-- ---- torn and shut: for good

-- an opening changes no word
request_image : (m : Machine) (w : Work) (s : Result ⊤ Refusal) → (after_request m w s).state.image ≡ m.image
request_image m w (Ok u) = refl
request_image m w (Err r) = refl

boot_image : (m : Machine) (w : Work) (s : Result Outcome Refusal) → (after_boot m w s).state.image ≡ m.image
boot_image m w (Ok o) = refl
boot_image m w (Err r) = refl

shut_one : {l : List ℕ} {w : Option Hand} {h : List Task} {d : Option Job} {k : ℕ} {t u : Bool} → Inv l w h d k t u → t ≡ true → Shut l
    → Shut (after_store (record { image = l; hand = w }) w).state.image
shut_one (empty g) q s = s
shut_one (done {l} {p} {j = j} {k} g e c b) q s =
    subst Shut (sym (store_refused p.work l (ground_length g) (omega (arith, carried_left p.work j k c (omega arith)))).1) s
shut_one (going {l} {p} {h} {j} {k} {t} base v g f w n x e c b) q s =
    subst Shut (sym (store_made p.work l len (omega (arith, carried_left p.work j k w.carried (omega arith)))).1)
    (subst (λ (z : Put). Shut (set l z.address z.value)) (sym place) (shut_store k l (omega (arith, ap length plans, w.count)) s))
  where
    len : length l ≡ image_words
    len = ap length e ∙ length_apply (take k (plan_at base j.task)) base ∙ ground_length g

    plans : plan_at base j.task ≡ off_plan
    plans = torn_plan h j.task (f.torn q) (omega (arith, n)) base

    place : put_of p.work ≡ get_or off_plan k (put 0 0)
    place = put_plan p.work ∙ (λ i. get_or ((w.plans ∙ plans) i) (w.carried.position i) (put 0 0))

shut_step : (m : Machine) (b : Ledger) (c : Call) → Related m b → b.torn ≡ true → Shut m.image → Shut (step m c).state.image
unfolding step
shut_step m b (request r) i q s =
    subst Shut (sym (request_image m (open_request m.image r).work (open_request m.image r).status)) s
shut_step m b (update_boot x v) i q s =
    subst Shut (sym (boot_image m (open_update_boot m.image x v).work (open_update_boot m.image x v).status)) s
shut_step m b store i q s = shut_one i q s
shut_step m b (answer a) i q s = s
shut_step m b (entry a) i q s = s
shut_step m b power_cut i q s = s

torn_request : (b : Ledger) (R : Ruling) → b.torn ≡ true → (ledger_request b R).state.torn ≡ true
unfolding let_go
torn_request b (refused n) q = q
torn_request b (accepted t a) q = rw q

torn_boot : (b : Ledger) (R : Ruling) → b.torn ≡ true → (ledger_boot b R).state.torn ≡ true
unfolding let_go
torn_boot b (refused n) q = q
torn_boot b (accepted t a) q = rw q

-- a store makes one more, or is refused
pub store_cases : (P : Step Ledger → Type 0) (b : Ledger) (j : Job)
    → ((h : List Task) (u : Bool) (n : ℕ)
    → P (record { state = record { history = h; hand = some j; made = suc b.made; torn = b.torn; unfinished = u }; result = stored n }))
    → P (record { state = b; result = refusal number.no_store_left }) → P (ledger_store b (some j))
store_cases P b j more none_left = go (ltb b.made j.stores) (eqb (suc b.made) j.stores)
  where
    made : List Task → Bool → ℕ → Step Ledger
    made h u n = record { state = record { history = h; hand = some j; made = suc b.made; torn = b.torn; unfinished = u }; result = stored n }

    go : (x y : Bool)
        → P (cond x (cond y (made (b.history ++ (j.task ∷ [])) false 0) (made b.history true (j.stores - suc b.made)))
        (record { state = b; result = refusal number.no_store_left }))
    go true true = more (b.history ++ (j.task ∷ [])) false 0
    go true false = more b.history true (j.stores - suc b.made)
    go false y = none_left

torn_store : (b : Ledger) (d : Option Job) → b.torn ≡ true → (ledger_store b d).state.torn ≡ true
torn_store b none q = q
torn_store b (some t) q = store_cases (λ (x : Step Ledger). x.state.torn ≡ true) b t (λ h u n. q) q

torn_stays : (b : Ledger) (c : Call) → b.torn ≡ true → (ledger_step b c).state.torn ≡ true
unfolding ledger_step let_go ruling
torn_stays b (request r) q = torn_request b (ruling (view_of b.history b.torn b.unfinished) r) q
torn_stays b (update_boot x v) q = torn_boot b (update_ruling b x v) q
torn_stays b store q = torn_store b b.hand q
torn_stays b (answer a) q = q
torn_stays b (entry a) q = q
torn_stays b power_cut q = rw q

shut_run : (cs : List Call) (m : Machine) (b : Ledger) → Related m b → b.torn ≡ true → Shut m.image → Shut (run step m cs).image
shut_run [] m b i q s = s
shut_run (c ∷ cs) m b i q s =
    shut_run cs (step m c).state (ledger_step b c).state (sim m b c i).related (torn_stays b c q) (shut_step m b c i q s)

-- ---- the start: all stores of a cold boot

pub cold_shaped : (before : List ℕ) (x : BootInputs) → well_shaped (work_at before (cold_boot x) []) ≡ true
unfolding well_shaped work_at work_with index_ok number_of
cold_shaped before x = refl

cold_position : (before : List ℕ) (x : BootInputs) → (work_at before (cold_boot x) []).position ≡ 0
unfolding work_at work_with
cold_position before x = refl

cold_history : (x : BootInputs) → state_of (cold_boot x ∷ []) ≡ next blank (cold_boot x)
unfolding state_of
cold_history x = refl

-- the image after an accepted cold boot
pub cold_image_law : (before : List ℕ) (x : BootInputs) → boot_number (open_cold_boot before x).status ≡ 0
    → cold_booted before x ≡ image_of 1 1 (next blank (cold_boot x))
unfolding open_cold_boot cold_booted plan_at
cold_image_law before x e = go (eqb (length before) image_words) refl (inputs_ok x) e
  where
    cold : Work
    cold = work_at before (cold_boot x) []

    image : length before ≡ image_words → (all_stores cold before).image ≡ image_of 1 1 (next blank (cold_boot x))
    image size = all_made before size cold (cold_shaped before x) (cold_position before x) ∙ run_cold blank x before before size

    -- the image's size, and the inputs
    go : (a : Bool) → eqb (length before) image_words ≡ a → (b : Bool)
        → boot_number
        (booted_of before (cond (not a) (refused refusal.WrongImage) (cond (not b) (refused refusal.WrongInputs) (accepted (cold_boot x) [])))).status ≡ 0
        → (let o = booted_of before (cond (not a) (refused refusal.WrongImage) (cond (not b) (refused refusal.WrongInputs) (accepted (cold_boot x) []))) in
        stored_by before o.work o.status ≡ image_of 1 1 (next blank (cold_boot x)))
    go true p true q = image (eqb-true (length before) image_words p)
    go true p false q = absurd (omega arith)
    go false p b q = absurd (omega arith)

pub cold_start : (before : List ℕ) (x : BootInputs) → boot_number (open_cold_boot before x).status ≡ 0 → Related (after_cold_boot before x) (first_ledger x)
cold_start before x e =
    empty (sound (subst (λ (y : Contents). Good y.chain) (sym (cold_history x)) (good_cold blank.chain x)) refl
    (cold_image_law before x e ∙ ap (image_of 1 1) (sym (cold_history x))))

-- ---- demand 3

same_results : (cs : List Call) (m : Machine) (b : Ledger) → Related m b → results step m cs ≡ results ledger_step b cs
same_results [] m b i = refl
same_results (c ∷ cs) m b i = λ j. (sim m b c i).result j ∷ same_results cs (step m c).state (ledger_step b c).state (sim m b c i).related j

-- a call that ends a boot leaves no work in its middle
kept_end : (m : Machine) (b : Ledger) (c : Call) → Related m b → ends_boot (step m c) ≡ true → Kept (step m c).state.image (ledger_step b c).state
kept_end m b c i x = kept_ground quiet.0 quiet.1 refl refl refl
  where
    quiet : Ground (step m c).state.image (ledger_step b c).state.history (ledger_step b c).state.torn
        (ledger_step b c).state.unfinished × ((ledger_step b c).state.unfinished ≡ false)
    quiet = settled (sim m b c i).related (and_right (was_accepted (step m c).result) (boot_ended (step m c).state.hand) x)

-- any list, from a machine and a ledger that are in step
holds : (m : Machine) (b : Ledger) → Related m b → (calls : List Call) → Holds m b calls
holds m b start calls =
    record {
      results = same_results calls m b start;
      counted = at_rest (run step m calls) (run ledger_step b calls) now;
      kept = λ c x. kept_end (run step m calls) (run ledger_step b calls) c now x;
      shut = λ c x q later. shut_run later (step (run step m calls) c).state (ledger_step (run ledger_step b calls) c).state
          (sim (run step m calls) (run ledger_step b calls) c now).related q ((kept_end (run step m calls) (run ledger_step b calls) c now x).torn q);
    }
  where
    now : Related (run step m calls) (run ledger_step b calls)
    now = sim_run calls m b start

pub demand3 : Demand3
demand3 before x e calls = holds (after_cold_boot before x) (first_ledger x) (cold_start before x e) calls
