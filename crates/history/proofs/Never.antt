-- Refusal 11, "not well formed", never occurs after a cold boot that ran to its end: the only rule with that number does not apply to a good chain, and
-- where attestation is off it is not reached. Assumes nothing.
use mathlib.Core.Path.{◌≡◌, refl, sym, ap, ◌∙◌, subst}
use mathlib.Core.Logic.{◌≢◌}
use Prim.Native.Nat.{ℕ}
use native.Mathlib.Omega.{arith}
use mathlib.Core.Bool.{Bool, true, false, cond, not, false≢true}
use mathlib.Core.List.{List, [], ◌∷◌, ◌++◌}
use mathlib.Core.Option.{Option, none, some}
use lib.Dec.{ltb}
use lib.ListN.{length, drop}
use Rattle.layout.specs.Sizes.{node_count}
use Rattle.layout.specs.Numbers.{refusal_number}
use Rattle.layout.specs.declared.refusals.Refusal.TheVariants as refusal
use Rattle.layout.specs.Refusals.{stores_left, short_buffer, short_entry, not_well_formed}
use Rattle.tree.specs.Tree.{well_formed}
use Rattle.opening.specs.Tasks.{Request, BootInputs, Task, Ruling, refused, accepted, View}
use Rattle.opening.specs.Rules.{Verdict, refuse, decline, Rule, judged, Command, command_of, declined, ruled, request_rules, inputs_ok, update_task}
use Rattle.opening.specs.Openings.{open_cold_boot, boot_number}
use Rattle.journal.specs.Entries.{journal_bytes}
use Rattle.opening.specs.Recorded.{entry_for}
use Rattle.history.specs.Calls.{Call, request, update_boot, store, answer, entry, power_cut, Result, refusal, opened, booted, stored, answered, recorded, no_work, cut_off, Machine, Step, step, run}
use Rattle.history.specs.Ledger.{Job, Ledger, state_of, is_off, let_go, view_of, ledger_request, ledger_boot, update_ruling, ledger_store, ledger_answer, ledger_entry, ledger_step, first_ledger}
use Rattle.history.specs.Demand.{after_cold_boot}
use Rattle.history.proofs.Good.{formed_good}
use Rattle.history.proofs.Ground.{Ground, sound, locked, broken, ruling}
use Rattle.command_laws.proofs.ByCommand.{Not11, No11}
use Rattle.command_laws.proofs.ByCode.{command_law}
use Rattle.history.proofs.Sim.{Related, sim, sim_run, release, rule_torn}
use Rattle.history.proofs.Demand.{cold_start, store_cases}

abbrev NotRefused11 : Ruling → Type 0
NotRefused11 (refused r) = refusal_number r ≢ not_well_formed
NotRefused11 (accepted t a) = Unit {0}

no_11 : (rs : List Rule) (c : Command) (r : Request) → No11 rs → NotRefused11 (ruled rs c r)
no_11 [] c q a = tt
no_11 (r ∷ rs) c q a = go r.applies r.verdict a.0 (λ e. no_11 rs c q (a.1 e)) refl
  where
    go : (b : Bool) (v : Verdict) → (b ≡ true → Not11 v) → (r.applies ≡ false → NotRefused11 (ruled rs c q)) → r.applies ≡ b
        → NotRefused11 (cond b (judged declined v) (ruled rs c q))
    go true (refuse n) n11 on e = n11 refl
    go true (decline n) n11 on e = tt
    go false v n11 on e = on e

module _ (v : View) (r : Request) (formed : v.on ≡ true → well_formed node_count v.nodes ≡ true) where
  request_rules_law : NotRefused11 (ruling v r)
  unfolding ruling
  request_rules_law =
      no_11 (request_rules v r) (command_of r.code) r
      (λ e z. omega arith, λ e. (λ q z. omega arith, λ q. (λ p z. omega arith, λ p. (λ s z. omega arith, λ s. (command_law r.code).no_11 v r formed))))

ground_rules : {l : List ℕ} {h : List Task} {t u : Bool} → Ground l h t u → (r : Request) → NotRefused11 (ruling (view_of h t u) r)
unfolding view_of
ground_rules {h = h} (sound g o e) r = request_rules_law (view_of h false false) r (λ q. formed_good (state_of h).chain g)
ground_rules {h = h} (locked n m s) r = request_rules_law (view_of h true false) r (λ q. absurd (false≢true q))
ground_rules {h = h} (broken n m) r = request_rules_law (view_of h true true) r (λ q. absurd (false≢true q))

-- ---- results

-- "is this refusal 11", as a number
abbrev refusal_of : Result → ℕ
refusal_of (refusal n) = n
refusal_of (opened k n a) = 0
refusal_of (booted o k n) = 0
refusal_of (stored n) = 0
refusal_of (answered n w b) = 0
refusal_of (recorded n w b) = 0
refusal_of no_work = 0
refusal_of cut_off = 0

request_result : (b : Ledger) (R : Ruling) → NotRefused11 R → refusal_of (ledger_request b R).result ≢ not_well_formed
request_result b (refused n) o e = o e
request_result b (accepted t a) o e = omega arith

boot_result : (b : Ledger) (R : Ruling) → NotRefused11 R → refusal_of (ledger_boot b R).result ≢ not_well_formed
boot_result b (refused n) o e = o e
boot_result b (accepted t a) o e = omega arith

store_result_law : (b : Ledger) (d : Option Job) → refusal_of (ledger_store b d).result ≢ not_well_formed
store_result_law b none = λ e. omega arith
store_result_law b (some j) = store_cases (λ (x : Step Ledger). refusal_of x.result ≢ not_well_formed) b j (λ h u n e. omega arith) (λ e. omega arith)

answer_result_law : (d : Option Job) (k : ℕ) (a : List ℕ) → refusal_of (ledger_answer d k a) ≢ not_well_formed
answer_result_law none k a e = omega arith
answer_result_law (some j) k a e = go (ltb k j.stores) (ltb (length a) (length j.answer)) e
  where
    go : (x y : Bool)
        → refusal_of (cond x (answered stores_left 0 a)
        (cond y (answered short_buffer 0 a) (answered 0 (length j.answer) (j.answer ++ drop (length j.answer) a)))) ≡ not_well_formed
        → ⊥
    go true y e = omega arith
    go false true e = omega arith
    go false false e = omega arith

entry_result_law : (d : Option Job) (k : ℕ) (a : List ℕ) → refusal_of (ledger_entry d k a) ≢ not_well_formed
entry_result_law none k a e = omega arith
entry_result_law (some j) k a e = go (ltb k j.stores) (journal_bytes (entry_for j.task)) (ltb (length a) (length (journal_bytes (entry_for j.task)))) e
  where
    go : (x : Bool) (l : List ℕ) (y : Bool)
        → refusal_of (cond x (recorded stores_left 0 a) (cond y (recorded (refusal_number short_entry) 0 a) (recorded 0 (length l) (l ++ drop (length l) a)))) ≡ not_well_formed
        → ⊥
    go true l y e = omega arith
    go false l true e = omega arith
    go false l false e = omega arith

ledger_result : (m : Machine) (b : Ledger) (c : Call) → Related m b → refusal_of (ledger_step b c).result ≢ not_well_formed
unfolding ledger_step ruling
ledger_result m b (request r) i =
    request_result b (ruling (view_of b.history b.torn b.unfinished) r) (subst NotRefused11 (rule_torn i r) (ground_rules (release i) r))
ledger_result m b (update_boot x v) i =
    boot_result b (update_ruling b x v) (boot_rules_law (inputs_ok x))
  where
    boot_rules_law : (y : Bool) → NotRefused11 (cond (not y) (refused refusal.WrongInputs) (accepted (update_task (not (is_off (let_go b).history (let_go b).torn)) v x) []))
    boot_rules_law true = tt
    boot_rules_law false = λ z. omega arith
ledger_result m b store i = store_result_law b b.hand
ledger_result m b (answer a) i = answer_result_law b.hand b.made a
ledger_result m b (entry a) i = entry_result_law b.hand b.made a
ledger_result m b power_cut i = λ e. omega arith

-- whatever the list, its last call is not refused with 11
pub never_11 : (before : List ℕ) (x : BootInputs) → boot_number (open_cold_boot before x).status ≡ 0
    → (calls : List Call) (c : Call) → (step (run step (after_cold_boot before x) calls) c).result ≢ refusal not_well_formed
never_11 before x e calls c z = ledger_result m b c i (ap refusal_of (sym (sim m b c i).result ∙ z))
  where
    m : Machine
    m = run step (after_cold_boot before x) calls

    b : Ledger
    b = run ledger_step (first_ledger x) calls

    i : Related m b
    i = sim_run calls (after_cold_boot before x) (first_ledger x) (cold_start before x e)
