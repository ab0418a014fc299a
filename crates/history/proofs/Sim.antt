-- The machine and the ledger go together, call by call: between works the image is Ground; in the middle of one it is the Ground's image at the opening
-- with the first k stores made. Assumes nothing.
use mathlib.Core.Path.{◌≡◌, refl, sym, ap, ◌∙◌, subst}
use mathlib.Core.Logic.{inl, inr}
use Prim.Native.Nat.{ℕ, zero, suc, ◌-◌, ◌≤◌, ◌<◌, zero-le}
use native.Mathlib.Nat.{zero-lt-suc, zero-add, sub-zero}
use native.Mathlib.Decide.{ℕ_discrete, dec_lt}
use native.Mathlib.Omega.{arith}
use mathlib.Core.Bool.{Bool, true, false, cond, not, ◌&&◌, ◌||◌, or-false, or-true, and-false}
use mathlib.Core.List.{List, [], ◌∷◌, ◌++◌}
use mathlib.Core.Option.{Option, none, some}
use lib.Dec.{eqb, ltb}
use borrow.Author.Tests.{eq-eqb, ne_eqb, lt-ltb, le-ltb, le-leb}
use lib.ListN.{length, get_or, set, take, drop}
use lib.Seq.{take_all, take-append_seam, paste}
use Rattle.layout.specs.Sizes.{image_words, mark_at, answer_max}
use Rattle.layout.specs.Words.{zeros}
use Rattle.layout.specs.Refusals as number
use Rattle.layout.specs.declared.refusals.Refusal.TheVariants as refusal
use Rattle.table.specs.Table.{put, number_of, index_ok}
use Rattle.work.specs.Entries.{runs_of, put_of}
use Rattle.layout.specs.Numbers.{told_number}
use Rattle.layout.specs.declared.refusals.Refusal.TheVariants.{ShortBuffer}
use Rattle.work.specs.Entries.{Stored, well_shaped, finished, left_of, moved, answer_given, answer_number, answer_result, answer_buffer}
use Rattle.work.specs.Recorded.{taking_bytes, entries_of, entry_given, entry_number, entry_result, entry_buffer}
use Rattle.journal.specs.Entries.{Entry, journal_bytes}
use Rattle.std.proofs.Common.{Ok, Err}
use Rattle.layout.specs.Numbers.{refusal_number}
use Rattle.journal_bytes.specs.Results.{taken_given, taken_number, taken_buffer}
use Rattle.opening.specs.Recorded.{entry_for}
use Rattle.making.specs.Made.{work_with}
use Rattle.table.specs.declared.Put.{Put}
use Rattle.work.specs.declared.Work.{Work}
use Rattle.work.proofs.Plans.{apply, length_apply, plan, put_plan, one_more, mark_mid}
use Rattle.making.proofs.After.{store_made, store_refused}
use Rattle.opening.specs.Tasks.{Request, BootInputs, Task, Ruling, refused, accepted}
use Rattle.opening.specs.Rules.{inputs_ok, boot_rules, boot_ruling, update_task}
use Rattle.opening.specs.Works.{facts_of, work_at}
use Rattle.opening.specs.Openings.{opened_of, booted_of, view_in, open_request, intact, open_update_boot, outcome_of, outcome_number}
use Rattle.history.specs.Calls.{Call, request, update_boot, store, answer, entry, power_cut, Result, refusal, opened, booted, stored, answered, recorded, Hand, Machine, Step, after_request, after_boot, after_store, answer_taken, entry_taken, step, run}
use Rattle.history.specs.Ledger.{state_of, kind_at, Job, job_at, Ledger, view_of, tears, let_go, ledger_request, ledger_boot, update_ruling, ledger_store, ledger_answer, ledger_entry, ledger_step}
use Rattle.history.proofs.Runs.{plan_at, plan_answer, length_at}
use Rattle.history.proofs.Ground.{Ground, broken, Fits, stores_at, is_boot, FitsRuling, ground_length, finish, ruling, rule_same, fits_rule, intact_same, fits_boot, calm, kind_same, index_ok_law}
use Rattle.opening.proofs.Decided.{decided, negated}
use Rattle.opening.proofs.Recorded.{Told, entry_at}

-- ---- a work in hand, beside the ledger's job, with k stores made

pub record Carried (w : Work) (j : Job) (k : ℕ) : Type 0 where
  pub index : index_ok w.kind w.node ≡ true
  pub short : w.answer_len ≤ answer_max
  pub number : number_of w.kind ≡ j.stores
  pub position : w.position ≡ k
  pub long : w.answer_len ≡ length j.answer
  pub answer : take w.answer_len w.answer ≡ j.answer
  pub entries : entries_of w ≡ entry_for j.task
  pub told : Told j.task

pub carried_moved : {w : Work} {j : Job} {k : ℕ} → Carried w j k → Carried (moved w) j (suc k)
unfolding entries_of
carried_moved c =
    record {
      index = c.index;
      short = c.short;
      number = c.number;
      position = omega (arith, c.position);
      long = c.long;
      answer = c.answer;
      entries = c.entries;
      told = c.told;
    }

module _ (w : Work) (j : Job) (k : ℕ) (c : Carried w j k) (h : k ≤ j.stores) where
  shaped : well_shaped w ≡ true
  unfolding well_shaped
  shaped = rw (c.index, le-leb w.answer_len answer_max c.short, le-leb w.position (number_of w.kind) (omega (arith, c.number, c.position)))

  pub carried_left : left_of w ≡ j.stores - k
  unfolding left_of
  carried_left = rw shaped (omega (arith, c.number, c.position))

  -- the answer that is taken
  carried_early : k < j.stores → (b : List ℕ) → answer_taken (some (record { work = w; boot = true })) b ≡ answered number.stores_left 0 b
  unfolding answer_result answer_buffer answer_number answer_given finished
  carried_early l b = rw (shaped, ne_eqb w.position (number_of w.kind) (λ e. omega (arith, c.number, c.position)))

  carried_late : k ≡ j.stores → (b : List ℕ)
      → answer_taken (some (record { work = w; boot = true })) b
      ≡ cond (ltb (length b) (length j.answer)) (answered number.short_buffer 0 b)
      (answered 0 (length j.answer) (j.answer ++ drop (length j.answer) b))
  unfolding answer_result answer_buffer answer_number answer_given finished
  carried_late e b =
      rw (shaped, eq-eqb w.position (number_of w.kind) (omega (arith, c.number, c.position)))
      (ap (λ (n : ℕ). taken (ltb (length b) n)) c.long ∙ by_test (ltb (length b) (length j.answer)))
    where
      code : Bool → ℕ
      code x = told_number (cond x (Err ShortBuffer) (Ok w.answer_len))

      taken : Bool → Result
      taken x =
          answered (code x) (cond (eqb (code x) 0) w.answer_len 0) (cond (eqb (code x) 0) (paste b 0 w.answer w.answer_len) b)

      by_test : (x : Bool) → taken x ≡ cond x (answered number.short_buffer 0 b) (answered 0 (length j.answer) (j.answer ++ drop (length j.answer) b))
      by_test true = refl
      by_test false =
          ap (λ (n : ℕ). answered 0 w.answer_len (take w.answer_len w.answer ++ drop n b)) (zero-add w.answer_len)
          ∙ (λ i. answered 0 (c.long i) (c.answer i ++ drop (c.long i) b))

  pub carried_answer : (b : List ℕ) → answer_taken (some (record { work = w; boot = true })) b ≡ ledger_answer (some j) k b
  carried_answer b = elim (dec_lt k j.stores) [
    | yes l ↦ rw (lt-ltb k j.stores l) (carried_early l b)
    | no g ↦ rw (le-ltb k j.stores (omega arith)) (carried_late (omega arith) b)
  ]

  -- the entry that is taken
  entry_early : k < j.stores → (b : List ℕ) → entry_taken (some (record { work = w; boot = true })) b ≡ recorded number.stores_left 0 b
  unfolding entry_given entry_result entry_buffer entry_number finished
  entry_early l b = rw (shaped, ne_eqb w.position (number_of w.kind) (λ e. omega (arith, c.number, c.position)))

  entry_late : k ≡ j.stores → (b : List ℕ)
      → entry_taken (some (record { work = w; boot = true })) b
      ≡ cond (ltb (length b) (length (journal_bytes (entry_for j.task)))) (recorded (refusal_number number.short_entry) 0 b)
      (recorded 0 (length (journal_bytes (entry_for j.task))) (journal_bytes (entry_for j.task) ++ drop (length (journal_bytes (entry_for j.task))) b))
  unfolding entry_given entry_result entry_buffer entry_number finished taken_given taken_number taken_buffer
  entry_late e b =
      rw (shaped, eq-eqb w.position (number_of w.kind) (omega (arith, c.number, c.position)))
      (ap (λ (es : List Entry). taken (journal_bytes es) (ltb (length b) (length (journal_bytes es)))) c.entries
      ∙ by_test (journal_bytes (entry_for j.task)) (ltb (length b) (length (journal_bytes (entry_for j.task)))) refl)
    where
      taken : List ℕ → Bool → Result
      taken l x =
          let r = cond x (Err number.short_entry) (Ok (length l)) in
          let r' = cond (ltb (length b) (length l)) (Err number.short_entry) (Ok (length l)) in
          recorded (told_number r) (taking_bytes r) (cond (eqb (told_number r) 0) (cond (eqb (told_number r') 0) (l ++ drop (length l) b) b) b)

      by_test : (l : List ℕ) (x : Bool) → ltb (length b) (length l) ≡ x
          → taken l x ≡ cond x (recorded (refusal_number number.short_entry) 0 b) (recorded 0 (length l) (l ++ drop (length l) b))
      by_test l true q = refl
      by_test l false q = rw q

  pub carried_entry : (b : List ℕ) → entry_taken (some (record { work = w; boot = true })) b ≡ ledger_entry (some j) k b
  carried_entry b = elim (dec_lt k j.stores) [
    | yes l ↦ rw (lt-ltb k j.stores l) (entry_early l b)
    | no g ↦ rw (le-ltb k j.stores (omega arith)) (entry_late (omega arith) b)
  ]

-- opened for the job's task at the image `base`
pub record Underway (w : Work) (j : Job) (base : List ℕ) (k : ℕ) : Type 0 where
  pub carried : Carried w j k
  pub plans : plan w ≡ plan_at base j.task
  pub count : length (plan_at base j.task) ≡ j.stores

pub underway_moved : {w : Work} {j : Job} {base : List ℕ} {k : ℕ} → Underway w j base k → Underway (moved w) j base (suc k)
unfolding plan runs_of
underway_moved u = record { carried = carried_moved u.carried; plans = u.plans; count = u.count }

-- the next store of a work in hand
pub next_image : (w : Work) (j : Job) (base : List ℕ) (k : ℕ) → Underway w j base k → k < j.stores
    → set (apply (take k (plan_at base j.task)) base) (put_of w).address (put_of w).value ≡ apply (take (suc k) (plan_at base j.task)) base
next_image w j base k u h =
    ap (λ (p : Put). set (apply (take k (plan_at base j.task)) base) p.address p.value)
    (put_plan w ∙ (λ i. get_or (u.plans i) (u.carried.position i) (put 0 0)))
    ∙ one_more (plan_at base j.task) k base (omega (arith, u.count))

-- ---- the invariant

-- "The first makes the book unfinished": what k stores make of the flag
abbrev pub flag : ℕ → Bool → Bool
flag zero u = u
flag (suc k) u = true

-- image and hand of the machine; history, job in hand, stores made, torn, unfinished of the ledger
pub data Inv : List ℕ → Option Hand → List Task → Option Job → ℕ → Bool → Bool → Type 0 where
  empty : {l : List ℕ} {h : List Task} {k : ℕ} {t u : Bool} → Ground l h t u → Inv l none h none k t u
  done : {l : List ℕ} {p : Hand} {h : List Task} {j : Job} {k : ℕ} {t : Bool} → Ground l h t false
      → k ≡ j.stores → Carried p.work j k → p.boot ≡ is_boot j.task → Inv l (some p) h (some j) k t false
  going : {l : List ℕ} {p : Hand} {h : List Task} {j : Job} {k : ℕ} {t u : Bool} (base : List ℕ) (v : Bool) → Ground base h t v → Fits h t v j.task
      → Underway p.work j base k → j.stores ≡ stores_at (state_of h).chain j.task → k < j.stores
      → l ≡ apply (take k (plan_at base j.task)) base → u ≡ flag k v → p.boot ≡ is_boot j.task → Inv l (some p) h (some j) k t u

abbrev pub Related : Machine → Ledger → Type 0
Related m b = Inv m.image m.hand b.history b.hand b.made b.torn b.unfinished

pub record Together (m : Step Machine) (b : Step Ledger) : Type 0 where
  pub related : Related m.state b.state
  pub result : m.result ≡ b.result

-- ---- the work in hand goes

same_torn : {l : List ℕ} {h : List Task} {t u x : Bool} → x ≡ false → Ground l h t u → Ground l h (t || x) u
same_torn {l} {h} {t} {u} {x} e g = subst (λ (b : Bool). Ground l h b u) (sym (ap (λ (b : Bool). t || b) e ∙ or-false t)) g

no_tear : (n k : ℕ) → k ≡ n → (ltb 0 k && ltb k n) ≡ false
no_tear n k e = rw (le-ltb k n (omega arith)) (and-false (ltb 0 k))

middle_tears : (n k : ℕ) → suc k < n → (ltb 0 (suc k) && ltb (suc k) n) ≡ true
middle_tears n k h = rw (lt-ltb 0 (suc k) (zero-lt-suc k), lt-ltb (suc k) n h)

middle_mark : (base : List ℕ) (tk : Task) (k : ℕ) → length base ≡ image_words → 0 < k → k < length (plan_at base tk)
    → get_or (apply (take k (plan_at base tk)) base) mark_at 0 ≡ 0
unfolding plan_at
middle_mark base tk k e p h = mark_mid (work_at base tk []) k base p h (omega arith)

pub release : {l : List ℕ} {w : Option Hand} {h : List Task} {d : Option Job} {k : ℕ} {t u : Bool} → Inv l w h d k t u → Ground l h (t || tears d k) u
release (empty g) = same_torn refl g
release {k = k} (done {j = j} g e c b) = same_torn (no_tear j.stores k e) g
release {h = h} {k = zero} {t = t} {u} (going {j = j} base v g f w n p q r b) =
    subst (λ (z : List ℕ). Ground z h (t || false) u) (sym q) (subst (λ (z : Bool). Ground base h (t || false) z) (sym r) (same_torn refl g))
release {l} {h = h} {k = suc k} {t = t} {u} (going {j = j} base v g f w n p q r b) =
    subst (λ (z : Bool). Ground l h z u) (sym (ap (λ (z : Bool). t || z) (middle_tears j.stores k p) ∙ or-true t))
    (subst (λ (z : Bool). Ground l h true z) (sym r)
    (subst (λ (z : List ℕ). Ground z h true true) (sym q)
    (broken (length_apply (take (suc k) (plan_at base j.task)) base ∙ ground_length g)
    (middle_mark base j.task (suc k) (ground_length g) (zero-lt-suc k) (omega (arith, w.count))))))

-- ---- an opening

-- the answer, taken from the array that it was padded to
seam : (a : List ℕ) → take (length a) (a ++ zeros (answer_max - length a)) ≡ a
seam a = take-append_seam a (zeros (answer_max - length a))

module _ {l : List ℕ} {h : List Task} {t u : Bool} (g : Ground l h t u) (tk : Task) (a : List ℕ) (f : Fits h t u tk) (s : length a ≤ answer_max) (told : Told tk) where
  job : Job
  job = job_at (state_of h).chain tk a

  fresh : Underway (work_at l tk a) job l 0
  unfolding job work_at work_with
  fresh =
      record {
        carried =
            record {
              index = index_ok_law g tk f;
              short = s;
              number = ap number_of (kind_same g tk f);
              position = refl;
              long = refl;
              answer = seam a;
              entries = entry_at l tk a told;
              told = told;
            };
        plans = plan_answer l tk a;
        count = length_at l tk ∙ ap number_of (kind_same g tk f);
      }

  pub opened_left : left_of (work_at l tk a) ≡ stores_at (state_of h).chain tk
  unfolding job
  opened_left = carried_left (work_at l tk a) job 0 fresh.carried zero-le ∙ sub-zero job.stores

  -- a task with no stores is only opened where nothing is unfinished
  rest : job.stores ≡ 0 → u ≡ false
  unfolding job
  rest e = elim (f.rest e) [ inl q ↦ q | inr q ↦ calm g q ]

  start : (b : Bool) → b ≡ is_boot tk → Inv l (some (record { work = work_at l tk a; boot = b })) h (some job) 0 t u
  unfolding job
  start b e = go job.stores refl
    where
      go : (n : ℕ) → job.stores ≡ n → Inv l (some (record { work = work_at l tk a; boot = b })) h (some job) 0 t u
      go zero z =
          subst (λ (x : Bool). Inv l (some (record { work = work_at l tk a; boot = b })) h (some job) 0 t x) (sym (rest z))
          (done (subst (λ (x : Bool). Ground l h t x) (rest z) g) (sym z) fresh.carried e)
      go (suc n) z = going {j = job} {k = 0} l u g f fresh refl (omega arith) refl refl e

  kind_now : (work_at l tk a).kind ≡ kind_at (state_of h).chain tk
  unfolding work_at work_with
  kind_now = kind_same g tk f

  answer_held : take (work_at l tk a).answer_len (work_at l tk a).answer ≡ a
  unfolding work_at work_with
  answer_held = seam a

-- ---- a request

-- whether the work in hand would tear does not change the rules: where it would, the ledger is unfinished
pub rule_torn : {l : List ℕ} {w : Option Hand} {h : List Task} {d : Option Job} {k : ℕ} {t u : Bool} → Inv l w h d k t u → (r : Request)
    → ruling (view_of h (t || tears d k) u) r ≡ ruling (view_of h t u) r
unfolding ruling view_of
rule_torn {t = t} (empty g) r = rw (or-false t)
rule_torn {k = k} {t} (done {j = j} g e c b) r = rw (no_tear j.stores k e, or-false t)
rule_torn {k = zero} {t} (going base v g f w n p q c b) r = rw (or-false t)
rule_torn {k = suc k} {t} (going base v g f w n p q c b) r = rw c

module _ (m : Machine) (b : Ledger) (i : Related m b) where
  -- torn, if the work in hand goes
  gone : Bool
  gone = b.torn || tears b.hand b.made

  ground : Ground m.image b.history gone b.unfinished
  unfolding gone
  ground = release i

  after_request_law : (R : Ruling) → FitsRuling b.history gone b.unfinished false R
      → Together (after_request m (opened_of m.image R).work (opened_of m.image R).status) (ledger_request b R)
  unfolding let_go gone job
  after_request_law (refused n) f = record { related = i; result = refl }
  after_request_law (accepted tk a) f =
      record {
        related = start ground tk a f.0 f.1 f.3 false f.2;
        result = λ j. opened (kind_now ground tk a f.0 f.1 f.3 j) (opened_left ground tk a f.0 f.1 f.3 j) (answer_held ground tk a f.0 f.1 f.3 j);
      }

  after_boot_law : (R : Ruling) → FitsRuling b.history gone b.unfinished true R
      → Together (after_boot m (booted_of m.image R).work (booted_of m.image R).status) (ledger_boot b R)
  unfolding let_go gone job
  after_boot_law (refused n) f = record { related = i; result = refl }
  after_boot_law (accepted tk a) f =
      record {
        related = start ground tk a f.0 f.1 f.3 true f.2;
        result = λ j. booted (outcome_number (outcome_of (facts_of tk).boot)) (kind_now ground tk a f.0 f.1 f.3 j) (opened_left ground tk a f.0 f.1 f.3 j);
      }

  sim_request : (r : Request) → Together (step m (request r)) (ledger_step b (request r))
  unfolding step ledger_step open_request ruling gone
  sim_request r =
      subst (λ (R : Ruling). Together (after_request m (opened_of m.image R).work (opened_of m.image R).status) (ledger_request b now))
      (sym same)
      (after_request_law now (subst (FitsRuling b.history gone b.unfinished false) (rule_torn i r) (fits_rule b.history gone b.unfinished r)))
    where
      now : Ruling
      now = ruling (view_of b.history b.torn b.unfinished) r

      same : cond (not (eqb (length m.image) image_words)) (refused refusal.WrongImage) (ruling (view_in m.image) r) ≡ now
      same = rw (ground_length ground) (rule_same ground r ∙ rule_torn i r)

  -- ---- an update boot

  sim_boot : (x : BootInputs) (v : Bool) → Together (step m (update_boot x v)) (ledger_step b (update_boot x v))
  unfolding step ledger_step open_update_boot let_go gone
  sim_boot x v =
      subst (λ (R : Ruling). Together (after_boot m (booted_of m.image R).work (booted_of m.image R).status) (ledger_boot b (update_ruling b x v)))
      (sym same)
      (after_boot_law (update_ruling b x v)
      (decided (FitsRuling b.history gone b.unfinished true) (boot_rules x) (λ n. refused refusal.WrongInputs) _ (λ n. tt) (λ n. tt)
      (λ n. fits_boot b.history gone b.unfinished v x (negated (inputs_ok x) n.0))))
    where
      same : cond (not (eqb (length m.image) image_words)) (refused refusal.WrongImage) (boot_ruling (boot_rules x) (update_task (intact m.image) v x))
          ≡ update_ruling b x v
      same =
          rw (ground_length ground)
          (ap (λ (y : Bool). boot_ruling (boot_rules x) (update_task y v x)) (intact_same ground))

  -- ---- a power cut

  sim_cut : Together (step m power_cut) (ledger_step b power_cut)
  unfolding step ledger_step let_go gone
  sim_cut = record { related = empty ground; result = refl }

-- ---- an answer

answer_both : {l : List ℕ} {w : Option Hand} {h : List Task} {d : Option Job} {k : ℕ} {t u : Bool} → Inv l w h d k t u → (a : List ℕ)
    → answer_taken w a ≡ ledger_answer d k a
answer_both (empty g) a = refl
answer_both (done {p = p} {j = j} {k} g e c b) a = carried_answer p.work j k c (omega arith) a
answer_both (going {p = p} {j = j} {k} base v g f w n q e c b) a = carried_answer p.work j k w.carried (omega arith) a

sim_answer : (m : Machine) (b : Ledger) → Related m b → (a : List ℕ) → Together (step m (answer a)) (ledger_step b (answer a))
unfolding step ledger_step
sim_answer m b i a = record { related = i; result = answer_both i a }

-- ---- an entry

entry_both : {l : List ℕ} {w : Option Hand} {h : List Task} {d : Option Job} {k : ℕ} {t u : Bool} → Inv l w h d k t u → (a : List ℕ)
    → entry_taken w a ≡ ledger_entry d k a
entry_both (empty g) a = refl
entry_both (done {p = p} {j = j} {k} g e c b) a = carried_entry p.work j k c (omega arith) a
entry_both (going {p = p} {j = j} {k} base v g f w n q e c b) a = carried_entry p.work j k w.carried (omega arith) a

sim_entry : (m : Machine) (b : Ledger) → Related m b → (a : List ℕ) → Together (step m (entry a)) (ledger_step b (entry a))
unfolding step ledger_step
sim_entry m b i a = record { related = i; result = entry_both i a }

-- ---- a store

abbrev machine : List ℕ → Option Hand → Machine
machine l p = record { image = l; hand = p }

abbrev ledger : List Task → Option Job → ℕ → Bool → Bool → Ledger
ledger h d k t u = record { history = h; hand = d; made = k; torn = t; unfinished = u }

-- what the machine makes of a store's answer
abbrev store_step : Hand → Stored → List ℕ → Step Machine
store_step p r l =
    record {
      state = machine l (some (record { work = r.work; boot = p.boot }));
      result = cond (eqb r.number 0) (stored (left_of r.work)) (refusal r.number);
    }

store_both : {l : List ℕ} {w : Option Hand} {h : List Task} {d : Option Job} {k : ℕ} {t u : Bool} → Inv l w h d k t u
    → Together (after_store (machine l w) w) (ledger_store (ledger h d k t u) d)
store_both (empty g) = record { related = empty g; result = refl }
store_both (done {l} {p} {h} {j} {k} {t} g e c b) =
    rw (le-ltb k j.stores (omega arith))
    (subst (λ (x : Step Machine). Together x (record { state = ledger h (some j) k t false; result = refusal number.no_store_left })) (sym no_store)
    (record { related = done g e c b; result = refl }))
  where
    no_store : after_store (machine l (some p)) (some p) ≡ record { state = machine l (some p); result = refusal number.no_store_left }
    no_store =
        let z : left_of p.work ≡ 0 = omega (arith, carried_left p.work j k c (omega arith)) in
        let s = store_refused p.work l (ground_length g) z in
        λ i. store_step p (s.0 i) (s.1 i)
store_both (going {l} {p} {h} {j} {k} {t} {u} base v g f w n q e c b) =
    rw (lt-ltb k j.stores q)
    (subst (λ (x : Step Machine). Together x (cond (eqb (suc k) j.stores) last more)) (sym one_store) (go (ℕ_discrete (suc k) j.stores)))
  where
    after : Hand
    after = record { work = moved p.work; boot = p.boot }

    image : List ℕ
    image = apply (take (suc k) (plan_at base j.task)) base

    left : left_of p.work ≡ j.stores - k
    left = carried_left p.work j k w.carried (omega arith)

    left_after : left_of (moved p.work) ≡ j.stores - suc k
    left_after = carried_left (moved p.work) j (suc k) (carried_moved w.carried) q

    one_store : after_store (machine l (some p)) (some p) ≡ record { state = machine image (some after); result = stored (left_of (moved p.work)) }
    one_store =
        let s = store_made p.work l (ap length e ∙ length_apply (take k (plan_at base j.task)) base ∙ ground_length g) (omega (arith, left)) in
        (λ i. store_step p (s.0 i) (s.1 i))
        ∙ ap (λ (z : List ℕ). store_step p (record { number = 0; work = moved p.work }) z)
        (ap (λ (z : List ℕ). set z (put_of p.work).address (put_of p.work).value) e ∙ next_image p.work j base k w q)

    last : Step Ledger
    last = record { state = ledger (h ++ (j.task ∷ [])) (some j) (suc k) t false; result = stored 0 }

    more : Step Ledger
    more = record { state = ledger h (some j) (suc k) t true; result = stored (j.stores - suc k) }

    go : Dec (suc k ≡ j.stores)
        → Together (record { state = machine image (some after); result = stored (left_of (moved p.work)) }) (cond (eqb (suc k) j.stores) last more)
    go (yes z) =
        rw (eq-eqb (suc k) j.stores z)
        (record {
          related = done {p = after}
              (subst (λ (x : List ℕ). Ground x (h ++ (j.task ∷ [])) t false)
              (sym (ap (λ (ps : List Put). apply ps base) (take_all (suc k) (plan_at base j.task) (omega (arith, w.count)))))
              (finish g j.task f (omega (arith, n))))
              z (carried_moved w.carried) b;
          result = ap stored (omega (arith, left_after));
        })
    go (no z) =
        rw (ne_eqb (suc k) j.stores z)
        (record {
          related = going {j = j} {k = suc k} base v g f (underway_moved w) n (omega arith) refl refl b;
          result = ap stored left_after;
        })

sim_store : (m : Machine) (b : Ledger) → Related m b → Together (step m store) (ledger_step b store)
unfolding step ledger_step
sim_store m b i = store_both i

-- ---- any call, any list of calls

pub sim : (m : Machine) (b : Ledger) (c : Call) → Related m b → Together (step m c) (ledger_step b c)
sim m b (request r) i = sim_request m b i r
sim m b (update_boot x v) i = sim_boot m b i x v
sim m b store i = sim_store m b i
sim m b (answer a) i = sim_answer m b i a
sim m b (entry a) i = sim_entry m b i a
sim m b power_cut i = sim_cut m b i

pub sim_run : (cs : List Call) (m : Machine) (b : Ledger) → Related m b → Related (run step m cs) (run ledger_step b cs)
sim_run [] m b i = i
sim_run (c ∷ cs) m b i = sim_run cs (step m c).state (ledger_step b c).state (sim m b c i).related
