-- Every history of the ledger counts, entry by entry, and leads to its registers and nodes. Assumes nothing.
use mathlib.Core.Path.{◌≡◌, refl, sym, ap, ◌∙◌, subst}
use Prim.Native.Nat.{ℕ, suc, ◌<◌}
use native.Mathlib.Omega.{arith}
use mathlib.Core.Bool.{Bool, true, false, cond, not, ◌||◌, or-false, or-true, true≢false}
use mathlib.Core.List.{List, [], ◌∷◌, ◌++◌}
use mathlib.Core.Option.{Option, none, some}
use lib.Dec.{eqb}
use lib.ListN.{drop}
use Rattle.tree.specs.Tree.{Tree}
use Rattle.journal.specs.Entries.{Entry}
use Rattle.journal.specs.Entries as entry
use Rattle.opening.specs.Orders.{NodeCommand, derive, extend, rotate, destroy, malformed, command_in, fresh_for}
use Rattle.layout.specs.declared.refusals.Refusal.TheVariants as refusal
use Rattle.opening.specs.Tasks.{BootInputs, Measurement, RegisterExtension, Order, Request, Task, no_stores, kept_boot, disable_command, disabling_boot, stash, update, cold_boot, extension, invoke, Ruling, refused, accepted, View}
use Rattle.opening.specs.Rules.{Rule, Command, stash_measurement, disable_attestation, identity_key, verify_signature, extend_register, invoke_dpe, unknown_command, command_of, stash_code, disable_code, identity_code, verify_code, extend_code, invoke_code, measurement_in, extension_in, stash_rules, extend_rules, invoke_rules, served, request_rules, boot_rules, boot_ruling, update_task}
use Rattle.opening.specs.Recorded.{entry_ordered, entry_for, entries_for}
use Rattle.opening.proofs.Decided.{NoneApply, decided, ruled_decided, negated}
use Rattle.history.specs.Calls.{Call, request, update_boot, store, answer, power_cut, Step, run}
use Rattle.history.specs.Calls as call
use Rattle.history.specs.Ledger.{Contents, Chain, tree_at, next_chain, blank, state_of, any, disables, is_off, view_of, Job, Ledger, let_go, ledger_request, ledger_boot, update_ruling, ledger_store, ledger_step, first_ledger}
use Rattle.history.proofs.Ground.{any_snoc, state_snoc, ruling}
use Rattle.replaying.specs.Replay.{Replay, task_of, view_at, passes, ordered, countable, off_after, counted, boot_from}
use Rattle.replaying.specs.Lives.{Alike}
use Rattle.replaying.proofs.Data.{asked_for}
use Rattle.replaying.proofs.Counts.{CountsTo, counts_append, entries_snoc}
use Rattle.replaying.proofs.Stores.{stepped, by_store}

-- ---- a task that counts behind a history

abbrev Joins : List Task → Task → Type 0
Joins h t = (x : Replay) → Alike x h → (y : Replay) × CountsTo x (entry_for t) y × Alike y (h ++ (t ∷ []))

-- registers and nodes of a longer history
chain_snoc : (h : List Task) (t : Task) → (state_of (h ++ (t ∷ []))).chain ≡ next_chain (state_of h).chain t
chain_snoc h t = ap (λ (x : Contents). x.chain) (state_snoc h t)

-- nothing to store: no entry
idle_joins : (h : List Task) (t : Task) → entry_for t ≡ [] → disables t ≡ false → ((x : Chain) → next_chain x t ≡ x) → Joins h t
idle_joins h t e d n x a = (
  x,
  subst (λ (es : List Entry). CountsTo x es x) (sym e) refl,
  record {
    booted = a.booted;
    off = a.off ∙ sym (or-false (any disables h)) ∙ ap (λ (b : Bool). any disables h || b) (sym d) ∙ sym (any_snoc disables h t);
    chain = a.chain ∙ sym (chain_snoc h t ∙ n (state_of h).chain);
  },
)

-- one entry, which counts and makes what the task makes
entry_joins : (h : List Task) (t : Task) (e : Entry) → entry_for t ≡ e ∷ [] → ((x : Replay) → Alike x h → countable x e ≡ true)
    → ((b : Bool) → off_after b e ≡ (b || disables t)) → ((x : Chain) → next_chain x (task_of e) ≡ next_chain x t) → Joins h t
entry_joins h t e f c o n x a = (
  counted x e,
  subst (λ (es : List Entry). CountsTo x es (counted x e)) (sym f) (c x a, refl),
  record {
    booted = refl;
    off = o x.off ∙ ap (λ (b : Bool). b || disables t) a.off ∙ sym (any_snoc disables h t);
    chain = n x.contents.chain ∙ ap (λ (y : Chain). next_chain y t) a.chain ∙ sym (chain_snoc h t);
  },
)

-- ---- the rules of an opening, seen by a replay

pub passed : (rs : List Rule) → NoneApply rs → passes rs ≡ true
passed [] n = refl
passed (r ∷ rs) n = rw (n.0, passed rs n.1)

left_false : (a b : Bool) → (a || b) ≡ false → a ≡ false
left_false true b e = e
left_false false b e = refl

right_false : (a b : Bool) → (a || b) ≡ false → b ≡ false
right_false true b e = absurd (true≢false e)
right_false false b e = e

not_off : (b : Bool) → not b ≡ true → b ≡ false
not_off true e = sym e
not_off false e = refl

module _ (h : List Task) (t u : Bool) (x : Replay) (a : Alike x h) where
  abbrev v : View
  v = view_of h t u

  on_off : (view_of h t u).on ≡ true → x.off ≡ false
  unfolding view_of
  on_off e = a.off ∙ right_false t (any disables h) (not_off (is_off h t) e)

  same_nodes : (view_of h t u).nodes ≡ (view_at x).nodes
  unfolding view_of
  same_nodes = ap tree_at (sym a.chain)

  -- rules that look at "is it on" and at the nodes, seen while on
  seen : (rules : Bool → Tree → List Rule) → (view_of h t u).on ≡ true → NoneApply (rules (view_of h t u).on (view_of h t u).nodes)
      → passes (rules (view_at x).on (view_at x).nodes) ≡ true
  seen rules on n =
      ap (λ (z : Tree). passes (rules (not x.off) z)) (sym same_nodes)
      ∙ ap (λ (o : Bool). passes (rules o (view_of h t u).nodes)) (ap not (on_off on) ∙ sym on)
      ∙ passed (rules (view_of h t u).on (view_of h t u).nodes) n

  abbrev seeing : Bool → Tree → View
  seeing o z = record { done = true; on = o; nodes = z }

  stash_counts : (m : Measurement) → NoneApply (stash_rules (view_of h t u) m) → countable x (entry.stash m.type m.digest m.svn m.caller) ≡ true
  stash_counts m n = rw a.booted (seen (λ o z. stash_rules (seeing o z) m) (negated (view_of h t u).on n.0) n)

  extension_counts : (e : RegisterExtension) → NoneApply (extend_rules (view_of h t u) e) → countable x (entry.extension e.register e.digest) ≡ true
  extension_counts e n = rw a.booted (seen (λ o z. extend_rules (seeing o z) e) (negated (view_of h t u).on n.1.0) n)

  order_counts : (o : Order) → NoneApply (invoke_rules (view_of h t u) o) → ordered x o ≡ true
  order_counts o n = rw a.booted (seen (λ b z. invoke_rules (seeing b z) o) (negated (view_of h t u).on n.0) n)

-- ---- what the rules accept counts

abbrev RulingOk : List Task → Ruling → Type 0
RulingOk h (refused n) = Unit {0}
RulingOk h (accepted t a) = Joins h t

idle_request : (h : List Task) → Joins h no_stores
unfolding next_chain
idle_request h = idle_joins h no_stores refl refl (λ x. refl)

-- by command, where none of its rules applies
module _ (h : List Task) (t u : Bool) (r : Request) where
  abbrev By : Command → Type 0
  By c = NoneApply (c.rules (view_of h t u) r) → RulingOk h (served c r)

  stash_joins : By stash_measurement
  stash_joins n =
      let m = measurement_in r in
      entry_joins h (stash m) (entry.stash m.type m.digest m.svn m.caller) refl (λ x a. stash_counts h t u x a m n) (λ b. sym (or-false b))
      (λ x. refl)

  disable_joins : By disable_attestation
  disable_joins n = entry_joins h disable_command entry.disabling refl (λ x a. a.booted) (λ b. sym (or-true b)) (λ x. refl)

  extension_joins : By extend_register
  extension_joins n =
      let e = extension_in r in
      entry_joins h (extension e) (entry.extension e.register e.digest) refl (λ x a. extension_counts h t u x a e n) (λ b. sym (or-false b))
      (λ x. refl)

  -- a tree command's entry is the one that tells its order
  order_told_law : (c : NodeCommand) (fresh : List ℕ) (caller : ℕ) (e : Entry) → entry_ordered c (fresh_for c fresh) caller ≡ e ∷ []
      → task_of e ≡ invoke (asked_for c fresh caller) → ((x : Replay) → countable x e ≡ ordered x (asked_for c fresh caller))
      → ((b : Bool) → off_after b e ≡ b) → NoneApply (invoke_rules (view_of h t u) (asked_for c fresh caller))
      → Joins h (invoke (asked_for c fresh caller))
  order_told_law c fresh caller e f k o b n =
      let w = asked_for c fresh caller in
      entry_joins h (invoke w) e f (λ x a. o x ∙ order_counts h t u x a w n) (λ q. b q ∙ sym (or-false q)) (λ x. ap (next_chain x) k)

  order_joins : (c : NodeCommand) (fresh : List ℕ) (caller : ℕ) → NoneApply (invoke_rules (view_of h t u) (asked_for c fresh caller))
      → Joins h (invoke (asked_for c fresh caller))
  order_joins (derive k i ty d) fresh caller n =
      order_told_law (derive k i ty d) fresh caller (entry.derive k i ty d fresh caller) refl refl (λ x. refl) (λ b. refl) n
  order_joins (extend k d) fresh caller n = order_told_law (extend k d) fresh caller (entry.extend k d caller) refl refl (λ x. refl) (λ b. refl) n
  order_joins (rotate k) fresh caller n = order_told_law (rotate k) fresh caller (entry.rotate k fresh caller) refl refl (λ x. refl) (λ b. refl) n
  order_joins (destroy k) fresh caller n = order_told_law (destroy k) fresh caller (entry.destroy k caller) refl refl (λ x. refl) (λ b. refl) n
  order_joins malformed fresh caller n = absurd (true≢false n.1.1.0)

  served_joins : By (command_of r.code)
  served_joins = go (eqb r.code stash_code) (eqb r.code disable_code) (eqb r.code identity_code) (eqb r.code verify_code) (eqb r.code extend_code)
      (eqb r.code invoke_code)
    where
      go : (u v w x y z : Bool)
          → By (cond u stash_measurement
          (cond v disable_attestation (cond w identity_key (cond x verify_signature (cond y extend_register (cond z invoke_dpe unknown_command))))))
      go true v w x y z = stash_joins
      go false true w x y z = disable_joins
      go false false true x y z = λ n. idle_request h
      go false false false true y z = λ n. idle_request h
      go false false false false true z = extension_joins
      go false false false false false true = order_joins (command_in (drop 8 r.bytes)) r.fresh r.caller
      go false false false false false false = λ n. idle_request h

request_joins : (h : List Task) (t u : Bool) (r : Request) → RulingOk h (ruling (view_of h t u) r)
unfolding ruling
request_joins h t u r =
    ruled_decided (RulingOk h) (request_rules (view_of h t u) r) (command_of r.code) r (λ n. tt) (λ n. idle_request h) (λ n. served_joins h t u r n.1.1.1.1)

boot_joins : (h : List Task) (t verdict : Bool) (b : BootInputs) → RulingOk h (boot_ruling (boot_rules b) (update_task (not (is_off h t)) verdict b))
unfolding next_chain
boot_joins h t verdict b =
    decided (RulingOk h) (boot_rules b) (λ n. refused refusal.WrongInputs) _ (λ n. tt) (λ n. tt) (λ n. go (is_off h t) refl verdict)
  where
    go : (o : Bool) → is_off h t ≡ o → (v : Bool) → RulingOk h (accepted (update_task (not o) v b) [])
    go true e v = entry_joins h disabling_boot entry.disabling refl (λ x a. a.booted) (λ c. sym (or-true c)) (λ x. refl)
    go false e true =
        entry_joins h (update b) (entry.update b.runtime b.manifest) refl (λ x a. rw (a.booted, a.off, right_false t (any disables h) e)) (λ c. sym (or-false c)) (λ x. refl)
    go false e false = idle_joins h kept_boot refl refl (λ x. refl)

-- ---- the ledger, call by call

-- from the replay `start` on, the history's entries count; and the work in hand may join it
abbrev Waits : List Task → Option Job → ℕ → Type 0
Waits h none k = Unit {0}
Waits h (some j) k = k < j.stores → Joins h j.task

pub record Sound (start : Replay) (b : Ledger) : Type 0 where
  pub end : Replay
  pub counts : CountsTo start (entries_for b.history) end
  pub alike : Alike end b.history
  pub waits : Waits b.history b.hand b.made

module _ (start : Replay) where
  sound_request : (b : Ledger) (R : Ruling) → Sound start b → RulingOk b.history R → Sound start (ledger_request b R).state
  unfolding let_go
  sound_request b (refused n) w k = w
  sound_request b (accepted t a) w k = record { end = w.end; counts = w.counts; alike = w.alike; waits = λ p. k }

  sound_boot : (b : Ledger) (R : Ruling) → Sound start b → RulingOk b.history R → Sound start (ledger_boot b R).state
  unfolding let_go
  sound_boot b (refused n) w k = w
  sound_boot b (accepted t a) w k = record { end = w.end; counts = w.counts; alike = w.alike; waits = λ p. k }

  sound_store : (b : Ledger) (d : Option Job) → b.hand ≡ d → Sound start b → Sound start (ledger_store b d).state
  sound_store b none e w = w
  sound_store b (some j) e w = by_store (λ (x : Step Ledger). Sound start x.state) b j last more w
    where
      ready : Waits b.history (some j) b.made
      ready = rw e at w.waits

      -- the last store adds the work to the history
      last : suc b.made ≡ j.stores → Sound start (stepped b j (b.history ++ (j.task ∷ [])) false)
      last q =
          let y = ready (omega arith) w.end w.alike in
          record {
            end = y.0;
            counts =
                subst (λ (es : List Entry). CountsTo start es y.0) (sym (entries_snoc b.history j.task))
                (counts_append start (entries_for b.history) (entry_for j.task) w.end y.0 w.counts y.1);
            alike = y.2;
            waits = λ l. absurd (omega arith);
          }

      more : suc b.made < j.stores → Sound start (stepped b j b.history true)
      more q = record { end = w.end; counts = w.counts; alike = w.alike; waits = λ l. ready (omega arith) }

  sound_step : (b : Ledger) (c : Call) → Sound start b → Sound start (ledger_step b c).state
  unfolding ledger_step let_go ruling
  sound_step b (request r) w = sound_request b (ruling (view_of b.history b.torn b.unfinished) r) w
      (request_joins b.history b.torn b.unfinished r)
  sound_step b (update_boot x v) w = sound_boot b (update_ruling b x v) w (boot_joins b.history (let_go b).torn v x)
  sound_step b store w = sound_store b b.hand refl w
  sound_step b (answer buffer) w = w
  sound_step b (call.entry buffer) w = w
  sound_step b power_cut w = record { end = w.end; counts = w.counts; alike = w.alike; waits = tt }

  sound_run : (cs : List Call) (b : Ledger) → Sound start b → Sound start (run ledger_step b cs)
  sound_run [] b w = w
  sound_run (c ∷ cs) b w = sound_run cs (ledger_step b c).state (sound_step b c w)

  -- a cold boot counts wherever it stands, and begins anew
  sound_first : (x : BootInputs) → Sound start (first_ledger x)
  unfolding state_of
  sound_first x =
      record {
        end = counted start (entry.cold_boot x.runtime x.manifest);
        counts = (refl, refl);
        alike = record { booted = refl; off = refl; chain = cold start.contents.chain };
        waits = tt;
      }
    where
      cold : (y : Chain) → next_chain y (cold_boot (boot_from x.runtime x.manifest)) ≡ next_chain blank.chain (cold_boot x)
      cold y = unfold next_chain in refl

  -- the history of a cold boot and any calls
  pub history_counts : (x : BootInputs) (cs : List Call) → Sound start (run ledger_step (first_ledger x) cs)
  history_counts x cs = sound_run cs (first_ledger x) (sound_first x)
