-- The entries of a history can be written: numbers of 32 bits, digests of 48 bytes and handles of 20. Assumes nothing.
use mathlib.Core.Path.{◌≡◌, refl}
use Prim.Native.Nat.{ℕ, suc, ◌+◌, ◌^◌, ◌≤◌, ◌<◌}
use native.Mathlib.Omega.{arith}
use mathlib.Core.Bool.{Bool, true, false, cond, not, ◌&&◌}
use mathlib.Core.List.{List, [], ◌∷◌, ◌++◌}
use mathlib.Core.Option.{Option, none, some}
use lib.Dec.{eqb}
use lib.ListN.{length, take, drop, length-drop, take-append-drop}
use lib.Seq.{length-take-le}
use borrow.Author.Tests.{eqb-true}
use Rattle.layout.specs.Words.{le32}
use Rattle.journal.specs.Read.{Read, got}
use Rattle.journal.specs.Read as read
use Rattle.journal.specs.Fields.{Field, Values, FieldsOk, read_fields}
use Rattle.journal.specs.Entries.{Entry, derive_fields, extend_fields, handle_fields, EntriesOk}
use Rattle.journal.specs.Statements.{Bytes}
use Rattle.journal.proofs.Bytes.{bytes_rest}
use Rattle.journal.proofs.Says.{Says}
use Rattle.journal.proofs.Fields.{FieldsAre, fields_say}
use Rattle.tree.specs.Tree.{Tree}
use Rattle.opening.specs.Orders.{NodeCommand, derive, extend, rotate, destroy, malformed, whole, command_in, traits_of, fresh_for, unfit}
use Rattle.layout.specs.declared.refusals.Refusal.TheVariants as refusal
use Rattle.opening.specs.Tasks.{BootInputs, Request, Ruling, refused, accepted, View}
use Rattle.opening.specs.Rules.{Command, stash_measurement, disable_attestation, identity_key, verify_signature, extend_register, invoke_dpe, unknown_command, command_of, stash_code, disable_code, identity_code, verify_code, extend_code, invoke_code, served, request_rules, inputs_ok, boot_rules, boot_ruling, update_task}
use Rattle.opening.specs.Recorded.{entry_ordered, entry_for, entries_for}
use Rattle.opening.proofs.Decided.{NoneApply, decided, ruled_decided, negated}
use Rattle.opening.proofs.Ordered.{fit_length}
use Rattle.history.specs.Calls.{Call, request, update_boot, store, answer, entry, power_cut, Step, run}
use Rattle.history.specs.Ledger.{view_of, is_off, Job, Ledger, let_go, ledger_request, ledger_boot, update_ruling, ledger_store, ledger_step, first_ledger}
use Rattle.history.proofs.Ground.{ruling, digests_long}
use Rattle.replaying.specs.Lives.{CallOk, CallsOk, Life, LifeOk, history_of}
use Rattle.replaying.proofs.Counts.{entries_snoc}
use Rattle.replaying.proofs.Stores.{by_store}

-- ---- what an opening accepts

abbrev RulingFits : Ruling → Type 0
RulingFits (refused n) = Unit {0}
RulingFits (accepted t a) = EntriesOk (entry_for t)

-- four bytes are a number of 32 bits
le32_small : (l : List ℕ) (at : ℕ) → Bytes l → le32 l at < 2 ^ 32
le32_small l at h = omega (arith, h at, h (at + 1), h (at + 2), h (at + 3))

-- 48 bytes of a string that has them
digest_long : (l : List ℕ) (n at : ℕ) → length l ≡ n → at + 48 ≤ n → length (take 48 (drop at l)) ≡ 48
digest_long l n at e h = length-take-le 48 (drop at l) (omega (arith, length-drop at l))

-- the fields of a tree command's data
abbrev DataOk : NodeCommand → Type 0
DataOk (derive handle retain type digest) = FieldsOk derive_fields (handle, (retain, (type, (digest, tt))))
DataOk (extend handle digest) = FieldsOk extend_fields (handle, (digest, tt))
DataOk (rotate handle) = FieldsOk handle_fields (handle, tt)
DataOk (destroy handle) = FieldsOk handle_fields (handle, tt)
DataOk malformed = Unit {0}

whole_fits : (fs : List Field) (f : Values fs → NodeCommand) (l : List ℕ) → ((vs : Values fs) → FieldsOk fs vs → DataOk (f vs)) → (x : Read (Values fs))
    → Says (FieldsAre fs l) x → DataOk (whole x f)
whole_fits fs f l h (read.refused n) s = tt
whole_fits fs f l h (got vs []) s = h vs s.1
whole_fits fs f l h (got vs (b ∷ rest)) s = tt

command_fits : (l : List ℕ) → Bytes l → DataOk (command_in l)
unfolding command_in
command_fits [] s = tt
command_fits (c ∷ l) s = go (eqb c 1) (eqb c 2) (eqb c 3) (eqb c 4) (λ i. s (suc i))
  where
    go : (p q r s : Bool) → Bytes l
        → DataOk (cond p (whole (read_fields derive_fields l) (λ vs. derive vs.0 vs.1.0 vs.1.1.0 vs.1.1.1.0))
        (cond q (whole (read_fields extend_fields l) (λ vs. extend vs.0 vs.1.0))
        (cond r (whole (read_fields handle_fields l) (λ vs. rotate vs.0))
        (cond s (whole (read_fields handle_fields l) (λ vs. destroy vs.0)) malformed))))
    go true q r s b =
        whole_fits derive_fields (λ vs. derive vs.0 vs.1.0 vs.1.1.0 vs.1.1.1.0) l (λ vs h. h) (read_fields derive_fields l)
        (fields_say derive_fields l b)
    go false true r s b = whole_fits extend_fields (λ vs. extend vs.0 vs.1.0) l (λ vs h. h) (read_fields extend_fields l) (fields_say extend_fields l b)
    go false false true s b = whole_fits handle_fields (λ vs. rotate vs.0) l (λ vs h. h) (read_fields handle_fields l) (fields_say handle_fields l b)
    go false false false true b = whole_fits handle_fields (λ vs. destroy vs.0) l (λ vs h. h) (read_fields handle_fields l) (fields_say handle_fields l b)
    go false false false false b = tt

-- its entry: these fields, a fresh handle that is fit, and the caller
order_fits : (t : Tree) (c : NodeCommand) (fresh : List ℕ) (caller : ℕ) → DataOk c → caller < 2 ^ 32
    → ((traits_of c).takes_fresh && unfit t (fresh_for c fresh)) ≡ false → EntriesOk (entry_ordered c (fresh_for c fresh) caller)
order_fits t (derive h r ty d) fresh caller ok small u =
    ((ok.0, (ok.1.0, (ok.1.1.0, (ok.1.1.1.0, (fit_length t fresh u, (small, tt)))))), tt)
order_fits t (extend h d) fresh caller ok small u = ((ok.0, (ok.1.0, (small, tt))), tt)
order_fits t (rotate h) fresh caller ok small u = ((ok.0, (fit_length t fresh u, (small, tt))), tt)
order_fits t (destroy h) fresh caller ok small u = ((ok.0, (small, tt)), tt)
order_fits t malformed fresh caller ok small u = tt

module _ (v : View) (r : Request) (bytes : Bytes r.bytes) (caller : r.caller < 2 ^ 32) where
  abbrev By : Command → Type 0
  By c = c.length_ok r.bytes ≡ true → NoneApply (c.rules v r) → RulingFits (served c r)

  stash_fits : By stash_measurement
  stash_fits n k = (
    (
      le32_small r.bytes 4 bytes,
      (digest_long r.bytes 60 8 (eqb-true (length r.bytes) 60 n) (omega arith), (le32_small r.bytes 56 bytes, (caller, tt))),
    ),
    tt,
  )

  extension_fits : By extend_register
  extension_fits n k = (
    (le32_small r.bytes 4 bytes, (digest_long r.bytes 56 8 (eqb-true (length r.bytes) 56 n) (omega arith), tt)),
    tt,
  )

  invoke_fits : By invoke_dpe
  invoke_fits n k =
      let behind = bytes_rest (take 8 r.bytes) (drop 8 r.bytes) r.bytes (take-append-drop 8 r.bytes) bytes in
      order_fits v.nodes (command_in (drop 8 r.bytes)) r.fresh r.caller (command_fits (drop 8 r.bytes) behind) caller k.1.1.1.1.1.0

  served_fits : By (command_of r.code)
  served_fits = go (eqb r.code stash_code) (eqb r.code disable_code) (eqb r.code identity_code) (eqb r.code verify_code) (eqb r.code extend_code)
      (eqb r.code invoke_code)
    where
      go : (u v w x y z : Bool)
          → By (cond u stash_measurement
          (cond v disable_attestation (cond w identity_key (cond x verify_signature (cond y extend_register (cond z invoke_dpe unknown_command))))))
      go true v w x y z = stash_fits
      go false true w x y z = λ n k. (tt, tt)
      go false false true x y z = λ n k. tt
      go false false false true y z = λ n k. tt
      go false false false false true z = extension_fits
      go false false false false false true = invoke_fits
      go false false false false false false = λ n k. tt

  request_fits : RulingFits (ruling v r)
  unfolding ruling
  request_fits =
      ruled_decided RulingFits (request_rules v r) (command_of r.code) r (λ n. tt) (λ n. tt) (λ n. served_fits (negated _ n.1.1.0) n.1.1.1.1)

boot_fits : (intact verdict : Bool) (x : BootInputs) → RulingFits (boot_ruling (boot_rules x) (update_task intact verdict x))
boot_fits intact verdict x =
    decided RulingFits (boot_rules x) (λ n. refused refusal.WrongInputs) _ (λ n. tt) (λ n. tt) (λ n. go intact verdict (digests_long x (negated (inputs_ok x) n.0)))
  where
    go : (i v : Bool) → (length x.runtime ≡ 48) × (length x.manifest ≡ 48) → RulingFits (accepted (update_task i v x) [])
    go true true d = ((d.0, (d.1, tt)), tt)
    go true false d = tt
    go false v d = (tt, tt)

-- ---- the ledger, call by call

pub ok_append : (es fs : List Entry) → EntriesOk es → EntriesOk fs → EntriesOk (es ++ fs)
ok_append [] fs p q = q
ok_append (e ∷ es) fs p q = (p.0, ok_append es fs p.1 q)

abbrev HandFits : Option Job → Type 0
HandFits none = Unit {0}
HandFits (some j) = EntriesOk (entry_for j.task)

record Fits (b : Ledger) : Type 0 where
  pub history : EntriesOk (entries_for b.history)
  pub hand : HandFits b.hand

fits_request : (b : Ledger) (R : Ruling) → Fits b → RulingFits R → Fits (ledger_request b R).state
unfolding let_go
fits_request b (refused n) w k = w
fits_request b (accepted t a) w k = record { history = w.history; hand = k }

fits_boot : (b : Ledger) (R : Ruling) → Fits b → RulingFits R → Fits (ledger_boot b R).state
unfolding let_go
fits_boot b (refused n) w k = w
fits_boot b (accepted t a) w k = record { history = w.history; hand = k }

fits_store : (b : Ledger) (d : Option Job) → b.hand ≡ d → Fits b → Fits (ledger_store b d).state
fits_store b none e w = w
fits_store b (some j) e w =
    by_store (λ (x : Step Ledger). Fits x.state) b j
    (λ q.
    record {
      history = rw (entries_snoc b.history j.task) (ok_append (entries_for b.history) (entry_for j.task) w.history ready);
      hand = ready;
    })
    (λ q. record { history = w.history; hand = ready })
    w
  where
    ready : EntriesOk (entry_for j.task)
    ready = rw e at w.hand

fits_step : (b : Ledger) (c : Call) → CallOk c → Fits b → Fits (ledger_step b c).state
unfolding ledger_step let_go ruling
fits_step b (request r) ok w =
    let v = view_of b.history b.torn b.unfinished in
    fits_request b (ruling v r) w (request_fits v r ok.0 ok.1)
fits_step b (update_boot x v) ok w = fits_boot b (update_ruling b x v) w (boot_fits (not (is_off (let_go b).history (let_go b).torn)) v x)
fits_step b store ok w = fits_store b b.hand refl w
fits_step b (answer buffer) ok w = w
fits_step b (entry buffer) ok w = w
fits_step b power_cut ok w = record { history = w.history; hand = tt }

fits_run : (cs : List Call) (b : Ledger) → CallsOk cs → Fits b → Fits (run ledger_step b cs)
fits_run [] b ok w = w
fits_run (c ∷ cs) b ok w = fits_run cs (ledger_step b c).state ok.1 (fits_step b c ok.0 w)

-- ---- a life's history

pub history_fits : (l : Life) → LifeOk l → EntriesOk (entries_for (history_of l))
history_fits l ok =
    let d = digests_long l.boot ok.boot in
    (fits_run l.calls (first_ledger l.boot) ok.calls (record { history = ((d.0, (d.1, tt)), tt); hand = tt })).history
