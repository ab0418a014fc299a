-- A host that keeps every work's entry keeps the journal of demand 3's history. Assumes nothing.
use mathlib.Core.Path.{◌≡◌, refl, sym, ap, ◌∙◌, subst}
use Prim.Native.Nat.{ℕ, suc, ◌-◌, ◌≤◌}
use native.Mathlib.Omega.{arith}
use mathlib.Core.Bool.{Bool, true, false, cond, not}
use mathlib.Core.List.{List, [], ◌∷◌, ◌++◌, append_assoc, append-nil}
use mathlib.Core.Option.{Option, none, some, none-ne-some}
use lib.Dec.{ltb, eqb}
use lib.ListN.{length, take, drop}
use lib.Seq.{take-append_seam}
use borrow.Author.Tests.{le-ltb, ne_eqb, eqb-true}
use Rattle.layout.specs.Sizes.{image_words}
use Rattle.layout.specs.Words.{zeros}
use Rattle.layout.specs.Numbers.{refusal_number}
use Rattle.layout.specs.Refusals.{stores_left, short_buffer, short_entry}
use Rattle.layout.specs.declared.refusals.Refusal.TheVariants as refusal
use Rattle.layout.proofs.Tab.{length_zeros}
use Rattle.journal.specs.Entries.{Entry, entry_bytes, journal_bytes, longest}
use Rattle.journal.specs.Entries as entry
use Rattle.journal_bytes.specs.Results.{taken_given, taken_number, taken_buffer}
use Rattle.work.specs.declared.Work.{Work}
use Rattle.work.specs.Entries.{finished}
use Rattle.work.specs.Recorded.{entries_of, entry_given, entry_number, entry_result, entry_buffer}
use Rattle.making.specs.Run.{all_stores}
use Rattle.making.proofs.After.{all_kept, all_finished}
use Rattle.opening.specs.Orders.{NodeCommand, derive, extend, rotate, destroy, malformed}
use Rattle.opening.specs.Tasks.{BootInputs, Task, no_stores, kept_boot, disable_command, disabling_boot, stash, update, cold_boot, extension, invoke, Ruling, refused, accepted}
use Rattle.opening.specs.Rules.{inputs_ok}
use Rattle.opening.specs.Works.{work_at}
use Rattle.opening.specs.Openings.{booted_of, open_cold_boot, boot_number}
use Rattle.opening.specs.Recorded.{entry_ordered, entry_for, entries_for}
use Rattle.opening.proofs.Recorded.{ToldOrder, Told, entry_at}
use Rattle.history.specs.Calls.{Call, request, update_boot, store, answer, power_cut, Result, refusal, opened, booted, stored, answered, recorded, no_work, cut_off, Hand, Machine, Step, step, run}
use Rattle.history.specs.Calls as call
use Rattle.history.specs.Ledger.{Job, Ledger, view_of, let_go, ledger_request, ledger_boot, update_ruling, ledger_store, ledger_answer, ledger_entry, ledger_step, first_ledger}
use Rattle.history.specs.Demand.{after_cold_boot}
use Rattle.history.proofs.Ground.{ruling, digests_long}
use Rattle.history.proofs.Sim.{Carried, carried_entry, Inv, empty, done, going, Related, Together, sim}
use Rattle.history.proofs.Demand.{cold_shaped, cold_start}
use Rattle.replaying.specs.Unit.{taken_from, is_last, in_hand, added, added_by, unit_journal, Records}
use Rattle.replaying.proofs.Short.{entry_short}
use Rattle.replaying.proofs.Counts.{entries_snoc}
use Rattle.replaying.proofs.Stores.{by_store}

-- ---- a task's entry has its digests and handles, and is not too long

order_short : (c : NodeCommand) (fresh : List ℕ) (caller : ℕ) → ToldOrder c fresh → length (journal_bytes (entry_ordered c fresh caller)) ≤ longest
order_short (derive h r t d) fresh caller s =
    entry_short (entry.derive h r t d fresh caller) (s.0, (tt, (tt, (s.1, (s.2, (tt, tt)))))) (omega arith)
order_short (extend h d) fresh caller s = entry_short (entry.extend h d caller) (s.0, (s.1, (tt, tt))) (omega arith)
order_short (rotate h) fresh caller s = entry_short (entry.rotate h fresh caller) (s.0, (s.1, (tt, tt))) (omega arith)
order_short (destroy h) fresh caller s = entry_short (entry.destroy h caller) (s, (tt, tt)) (omega arith)
order_short malformed fresh caller s = omega arith

task_short : (t : Task) → Told t → length (journal_bytes (entry_for t)) ≤ longest
unfolding entry_bytes
task_short no_stores h = omega arith
task_short kept_boot h = omega arith
task_short disable_command h = omega arith
task_short disabling_boot h = omega arith
task_short (stash x) h = entry_short (entry.stash x.type x.digest x.svn x.caller) (tt, (h, (tt, (tt, tt)))) (omega arith)
task_short (update x) h = entry_short (entry.update x.runtime x.manifest) (h.0, (h.1, tt)) (omega arith)
task_short (cold_boot x) h = entry_short (entry.cold_boot x.runtime x.manifest) (h.0, (h.1, tt)) (omega arith)
task_short (extension x) h = entry_short (entry.extension x.register x.digest) (tt, (h, tt)) (omega arith)
task_short (invoke o) h = order_short o.command o.fresh o.caller h

-- ---- a finished work's entry

written_in : Result → ℕ
written_in (refusal n) = 0
written_in (opened k n a) = 0
written_in (booted o k n) = 0
written_in (stored n) = 0
written_in (answered n w b) = 0
written_in (recorded n w b) = w
written_in no_work = 0
written_in cut_off = 0

buffer_in : Result → List ℕ
buffer_in (refusal n) = []
buffer_in (opened k n a) = []
buffer_in (booted o k n) = []
buffer_in (stored n) = []
buffer_in (answered n w b) = []
buffer_in (recorded n w b) = b
buffer_in no_work = []
buffer_in cut_off = []

-- what a host takes after the last store is the task's entry
pub taken_entry : (w : Work) (j : Job) (k : ℕ) → Carried w j k → k ≡ j.stores → taken_from w ≡ journal_bytes (entry_for j.task)
unfolding written_in buffer_in
taken_entry w j k c e =
    let l = journal_bytes (entry_for j.task) in
    let b = zeros longest in
    ap (λ (r : Result). take (written_in r) (buffer_in r)) (carried_entry w j k c (omega arith) b ∙ all_taken)
    ∙ take-append_seam l (drop (length l) b)
  where
    all_taken : ledger_entry (some j) k (zeros longest)
        ≡ recorded 0 (length (journal_bytes (entry_for j.task)))
        (journal_bytes (entry_for j.task) ++ drop (length (journal_bytes (entry_for j.task))) (zeros longest))
    all_taken =
        rw (
          le-ltb k j.stores (omega arith),
          le-ltb (length (zeros longest)) (length (journal_bytes (entry_for j.task))) (omega (arith, length_zeros longest, task_short j.task c.told)),
        )

-- ---- call by call

pub journal_append : (es fs : List Entry) → journal_bytes (es ++ fs) ≡ journal_bytes es ++ journal_bytes fs
journal_append [] fs = refl
journal_append (e ∷ es) fs =
    ap (λ (l : List ℕ). entry_bytes e ++ l) (journal_append es fs) ∙ sym (append_assoc (entry_bytes e) (journal_bytes es) (journal_bytes fs))

abbrev journal_of : Ledger → List ℕ
journal_of b = journal_bytes (entries_for b.history)

-- the ledger's history grows by the entry that is added, and by none where none is
abbrev Adds : Ledger → Step Ledger → List ℕ → Type 0
Adds b x l = journal_of x.state ≡ journal_of b ++ l

nothing_added : (b : Ledger) (x : Step Ledger) → x.state.history ≡ b.history → Adds b x []
nothing_added b x e = ap (λ (h : List Task). journal_bytes (entries_for h)) e ∙ sym (append-nil (journal_of b))

same_job : {i j : Job} → some i ≡ some j → i ≡ j
same_job {i} {j} e = ap job_in e
  where
    job_in : Option Job → Job
    job_in none = i
    job_in (some k) = k

-- what is added to the ledger's journal is what the machine gives
module _ (b : Ledger) (x : Step Machine) where
  -- a call that is no last store
  quiet : (y : Step Ledger) → Together x y → is_last y.result ≡ false → y.state.history ≡ b.history → Adds b y (added x)
  quiet y t e h =
      nothing_added b y h
      ∙ ap (λ (l : List ℕ). journal_of b ++ l)
      (sym (ap (λ (q : Bool). cond q (in_hand x.state.hand) []) (ap is_last t.result ∙ e)))

  -- the hand after a work's last store
  in_hand_law : {l : List ℕ} {w : Option Hand} {h : List Task} {d : Option Job} {k : ℕ} {t u : Bool} → Inv l w h d k t u → (j : Job) → d ≡ some j → k ≡ j.stores
      → in_hand w ≡ journal_bytes (entry_for j.task)
  in_hand_law (empty g) j e q = absurd (none-ne-some j e)
  in_hand_law (done {p = p} {j = i} {k} g n c z) j e q = taken_entry p.work i k c n ∙ ap (λ (d : Job). journal_bytes (entry_for d.task)) (same_job e)
  in_hand_law (going {p = p} {j = i} {k} base v g f w n l y r z) j e q = absurd (omega (arith, ap (λ (d : Job). d.stores) (same_job e)))

  store_adds : (d : Option Job) → b.hand ≡ d → Together x (ledger_store b d) → Adds b (ledger_store b d) (added x)
  store_adds none e = λ t. quiet (ledger_store b none) t refl refl
  store_adds (some j) e =
      by_store (λ (y : Step Ledger). Together x y → Adds b y (added x)) b j
      (λ q t.
      ap journal_bytes (entries_snoc b.history j.task)
      ∙ journal_append (entries_for b.history) (entry_for j.task)
      ∙ ap (λ (l : List ℕ). journal_of b ++ l)
      (sym (ap (λ (r : Bool). cond r (in_hand x.state.hand) []) (ap is_last t.result) ∙ in_hand_law t.related j refl q)))
      (λ q t. quiet _ t (ne_eqb (j.stores - suc b.made) 0 (λ z. omega arith)) refl)
      (λ t. quiet _ t refl refl)

  answer_quiet : (d : Option Job) (k : ℕ) (a : List ℕ) → is_last (ledger_answer d k a) ≡ false
  answer_quiet none k a = refl
  answer_quiet (some j) k a = go (ltb k j.stores) (ltb (length a) (length j.answer))
    where
      go : (p q : Bool)
          → is_last (cond p (answered stores_left 0 a)
          (cond q (answered short_buffer 0 a) (answered 0 (length j.answer) (j.answer ++ drop (length j.answer) a)))) ≡ false
      go true q = refl
      go false true = refl
      go false false = refl

  entry_quiet : (d : Option Job) (k : ℕ) (a : List ℕ) → is_last (ledger_entry d k a) ≡ false
  entry_quiet none k a = refl
  entry_quiet (some j) k a = go (ltb k j.stores) (journal_bytes (entry_for j.task)) (ltb (length a) (length (journal_bytes (entry_for j.task))))
    where
      go : (p : Bool) (l : List ℕ) (q : Bool)
          → is_last (cond p (recorded stores_left 0 a) (cond q (recorded (refusal_number short_entry) 0 a) (recorded 0 (length l) (l ++ drop (length l) a)))) ≡ false
      go true l q = refl
      go false l true = refl
      go false l false = refl

  request_adds : (R : Ruling) → Together x (ledger_request b R) → Adds b (ledger_request b R) (added x)
  unfolding let_go
  request_adds (refused n) t = quiet (ledger_request b (refused n)) t refl refl
  request_adds (accepted k a) t = quiet (ledger_request b (accepted k a)) t refl refl

  boot_adds : (R : Ruling) → Together x (ledger_boot b R) → Adds b (ledger_boot b R) (added x)
  unfolding let_go
  boot_adds (refused n) t = quiet (ledger_boot b (refused n)) t refl refl
  boot_adds (accepted k a) t = quiet (ledger_boot b (accepted k a)) t refl refl

  step_adds : (c : Call) → Together x (ledger_step b c) → Adds b (ledger_step b c) (added x)
  unfolding ledger_step ruling let_go
  step_adds (request r) t = request_adds (ruling (view_of b.history b.torn b.unfinished) r) t
  step_adds (update_boot y v) t = boot_adds (update_ruling b y v) t
  step_adds store t = store_adds b.hand refl t
  step_adds (answer a) t = quiet (record { state = b; result = ledger_answer b.hand b.made a }) t (answer_quiet b.hand b.made a) refl
  step_adds (call.entry a) t = quiet (record { state = b; result = ledger_entry b.hand b.made a }) t (entry_quiet b.hand b.made a) refl
  step_adds power_cut t = quiet (record { state = let_go b; result = cut_off }) t refl refl

run_adds : (cs : List Call) (m : Machine) (b : Ledger) → Related m b → journal_of (run ledger_step b cs) ≡ journal_of b ++ added_by m cs
run_adds [] m b i = sym (append-nil (journal_of b))
run_adds (c ∷ cs) m b i =
    let t = sim m b c i in
    run_adds cs (step m c).state (ledger_step b c).state t.related
    ∙ ap (λ (l : List ℕ). l ++ added_by (step m c).state cs) (step_adds b (step m c) c t)
    ∙ append_assoc (journal_of b) (added (step m c)) (added_by (step m c).state cs)

-- ---- the cold boot's own entry

-- an accepted cold boot's work
pub cold_opened : (before : List ℕ) (x : BootInputs) → boot_number (open_cold_boot before x).status ≡ 0
    → (length before ≡ image_words) × (inputs_ok x ≡ true) × ((open_cold_boot before x).work ≡ work_at before (cold_boot x) [])
unfolding open_cold_boot
cold_opened before x e = go (eqb (length before) image_words) refl (inputs_ok x) refl e
  where
    go : (a : Bool) → eqb (length before) image_words ≡ a → (b : Bool) → inputs_ok x ≡ b
        → boot_number (booted_of before (cond (not a) (refused refusal.WrongImage) (cond (not b) (refused refusal.WrongInputs) (accepted (cold_boot x) [])))).status ≡ 0
        → (length before ≡ image_words) × (inputs_ok x ≡ true)
        × ((booted_of before (cond (not a) (refused refusal.WrongImage) (cond (not b) (refused refusal.WrongInputs) (accepted (cold_boot x) [])))).work ≡ work_at before (cold_boot x) [])
    go true p true q n = (eqb-true (length before) image_words p, q, refl)
    go true p false q n = absurd (omega arith)
    go false p b q n = absurd (omega arith)

-- a finished work's entry
taken_finished : (w : Work) → finished w ≡ true → length (journal_bytes (entries_of w)) ≤ longest → taken_from w ≡ journal_bytes (entries_of w)
unfolding entry_given entry_result entry_buffer entry_number taken_given taken_number taken_buffer
taken_finished w f h =
    rw (f, le-ltb (length (zeros longest)) (length (journal_bytes (entries_of w))) (omega (arith, length_zeros longest)))
    (take-append_seam (journal_bytes (entries_of w)) (drop (length (journal_bytes (entries_of w))) (zeros longest)))

cold_entry : (before : List ℕ) (x : BootInputs) → boot_number (open_cold_boot before x).status ≡ 0
    → taken_from (all_stores (open_cold_boot before x).work before).work ≡ journal_bytes (entry_for (cold_boot x))
cold_entry before x e =
    let o = cold_opened before x e in
    let w = work_at before (cold_boot x) [] in
    let told = digests_long x o.1 in
    let same : entries_of (all_stores w before).work ≡ entry_for (cold_boot x) = kept w ∙ entry_at before (cold_boot x) [] told in
    ap (λ (v : Work). taken_from (all_stores v before).work) o.2
    ∙ taken_finished (all_stores w before).work (all_finished before o.0 w (cold_shaped before x))
    (subst (λ (es : List Entry). length (journal_bytes es) ≤ longest) (sym same) (task_short (cold_boot x) told))
    ∙ ap journal_bytes same
  where
    kept : (w : Work) → entries_of (all_stores w before).work ≡ entries_of w
    kept w = all_kept entries_of (λ v. unfold entries_of in refl) w before

pub records : Records
unfolding unit_journal
records before x e calls =
    sym
    (run_adds calls (after_cold_boot before x) (first_ledger x) (cold_start before x e)
    ∙ ap (λ (l : List ℕ). l ++ added_by (after_cold_boot before x) calls) (ap journal_bytes (append-nil (entry_for (cold_boot x))) ∙ sym (cold_entry before x e)))
