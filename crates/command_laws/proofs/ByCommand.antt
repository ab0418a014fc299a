-- What is asked of each command (that its answer fits, that its rules see only what they may, that what it does can be opened), as one record of laws: the
-- only place where a proof above goes by the command. Assumes nothing.
use Prim.Native.Nat.{ℕ, ◌+◌, ◌≤◌, ◌<◌}
use native.Mathlib.Nat.{not-suc-le-zero}
use native.Mathlib.Omega.{arith}
use mathlib.Core.Path.{◌≡◌, refl, sym, ap, ◌∙◌}
use mathlib.Core.Logic.{◌≢◌}
use mathlib.Core.Bool.{Bool, true, false, not, true≢false}
use mathlib.Core.List.{List, [], ◌∷◌}
use mathlib.Core.Option.{none}
use lib.ListN.{length, take, drop, length-take, length-drop}
use Rattle.opening.specs.Orders.{command_in}
use lib.Seq.{length-take-le}
use borrow.Author.Tests.{lt-ltb, leb-false, eqb-true}
use Rattle.layout.specs.Sizes.{node_count, answer_max, extendable}
use Rattle.layout.specs.Words.{bytes4}
use Rattle.layout.specs.Numbers.{refusal_number}
use Rattle.layout.specs.Refusals.{not_well_formed}
use Rattle.tree.specs.Tree.{Tree, well_formed, lowest_free, node_with, default_words}
use Rattle.tree.specs.Nodes.{tree_in}
use Rattle.table.specs.Table.{number_of, index_ok}
use Rattle.opening.specs.Tasks.{Request, Task, no_stores, kept_boot, disable_command, disabling_boot, stash, update, cold_boot, extension, invoke, View}
use Rattle.opening.specs.Rules.{Verdict, refuse, decline, Rule, Command, stash_measurement, disable_attestation, identity_key, verify_signature, extend_register, invoke_dpe, unknown_command, stash_length, extend_length, extension_in, order_in, order_rules, answer_of, ruled}
use Rattle.opening.specs.Works.{facts_of}
use Rattle.opening.proofs.Decided.{NoneApply, negated}
use Rattle.opening.proofs.Recorded.{Told}
use Rattle.opening.proofs.Ordered.{command_sized, order_told_law}
use Rattle.command_laws.proofs.Indices.{order_index}

-- ---- refusal 11

abbrev pub Not11 : Verdict → Type 0
Not11 (refuse r) = refusal_number r ≢ not_well_formed
Not11 (decline n) = Unit {0}

-- no rule that is reached and applies has the number 11
abbrev pub No11 : List Rule → Type 0
No11 [] = Unit {0}
No11 (r ∷ rs) = (r.applies ≡ true → Not11 r.verdict) × (r.applies ≡ false → No11 rs)

-- ---- what may be opened

-- a task that does not look at the nodes, and stores only if it disables
pub record Steady (t : Task) : Type 0 where
  pub same : (a b : Tree) → (facts_of t).kind a ≡ (facts_of t).kind b
  pub index : (a : Tree) (node : List ℕ) → index_ok ((facts_of t).kind a) node ≡ true
  pub quiet : (a : Tree) → 0 < number_of ((facts_of t).kind a) → (facts_of t).disables ≡ true
  pub whole : (facts_of t).frees ≡ false

-- none of a tree command's own rules applies
abbrev pub Granted : Tree → Task → Type 0
Granted t no_stores = Unit {0}
Granted t kept_boot = Unit {0}
Granted t disable_command = Unit {0}
Granted t disabling_boot = Unit {0}
Granted t (stash x) = Unit {0}
Granted t (update x) = Unit {0}
Granted t (cold_boot x) = Unit {0}
Granted t (extension x) = Unit {0}
Granted t (invoke o) = NoneApply (order_rules t o)

-- a command's task, where no rule applied
pub record Served (v : View) (t : Task) : Type 0 where
  -- its indices are fine at the nodes that the rules saw, whatever else the image holds
  pub index : (image : List ℕ) → tree_in image ≡ v.nodes → index_ok ((facts_of t).kind v.nodes) ((facts_of t).values image).node ≡ true
  pub granted : Granted v.nodes t
  -- it is no boot's
  pub request : (facts_of t).boot ≡ none
  pub steady : v.on ≡ false → Steady t

-- ---- the laws

abbrev view : Bool → Bool → Tree → View
view d o t = record { done = d; on = o; nodes = t }

pub record CommandLaw (c : Command) : Type 0 where
  -- its answer fits
  pub short : (r : Request) → length (answer_of (c.answer r)) ≤ answer_max
  -- while off, its rules do not look at the nodes
  pub blind : (r : Request) (d : Bool) (s t : Tree) → ruled (c.rules (view d false s) r) c r ≡ ruled (c.rules (view d false t) r) c r
  -- 11 is refused only while on, where the nodes are not well formed
  pub no_11 : (v : View) (r : Request) → (v.on ≡ true → well_formed node_count v.nodes ≡ true) → No11 (c.rules v r)
  pub serves : (v : View) (r : Request) → NoneApply (c.rules v r) → Served v (c.task r)
  -- the digests of what it does have 48 bytes, and the handles 20
  pub told : (v : View) (r : Request) → c.length_ok r.bytes ≡ true → NoneApply (c.rules v r) → Told (c.task r)

-- checksum and status, eight bytes, and at most the two halves of a key
short : (rest : List ℕ) → length rest ≤ 96 → length (answer_of rest) ≤ answer_max
unfolding answer_of
short rest h = omega arith

pub declined_short : (n : ℕ) → length (answer_of (bytes4 n)) ≤ answer_max
declined_short n = short (bytes4 n) (omega arith)

-- the digest of a stash's or an extension's request
digest_long : (l : List ℕ) (n : ℕ) → length l ≡ n → 8 + 48 ≤ n → length (take 48 (drop 8 l)) ≡ 48
digest_long l n e h = length-take-le 48 (drop 8 l) (omega (arith, length-drop 8 l))

-- nothing to store
idle : (v : View) → Served v no_stores
unfolding index_ok number_of
idle v =
    record {
      index = λ m e. refl;
      granted = tt;
      request = refl;
      steady = λ o. record { same = λ a b. refl; index = λ a m. refl; quiet = λ a p. absurd (not-suc-le-zero p); whole = refl };
    }

-- a stash rests on its indices: a holder and a free place
pub stash_law : CommandLaw stash_measurement
unfolding index_ok
stash_law =
    record {
      short = λ r. short (bytes4 0) (omega arith);
      blind = λ r d s t. refl;
      no_11 = λ v r f.
          (λ e. tt, λ e. (λ q. absurd (true≢false (sym q ∙ ap not (f (negated v.on e)))), λ q. (λ z. tt, λ z. (λ y. tt, λ y. tt))));
      serves = λ v r n.
          let t = v.nodes in
          record {
            index = λ m e.
                rw (
                  lt-ltb (lowest_free node_count t) node_count (leb-false node_count (lowest_free node_count t) n.1.1.1.0),
                  lt-ltb (node_with node_count t default_words) node_count (leb-false node_count (node_with node_count t default_words) n.1.1.0),
                );
            granted = tt;
            request = refl;
            steady = λ o. absurd (true≢false (sym (negated v.on n.0) ∙ o));
          };
      told = λ v r e n. digest_long r.bytes stash_length (eqb-true (length r.bytes) stash_length e) (omega arith);
    }

pub disable_law : CommandLaw disable_attestation
unfolding index_ok
disable_law =
    record {
      short = λ r. short [] (omega arith);
      blind = λ r d s t. refl;
      no_11 = λ v r f. tt;
      serves = λ v r n.
          record {
            index = λ m e. refl;
            granted = tt;
            request = refl;
            steady = λ o. record { same = λ a b. refl; index = λ a m. refl; quiet = λ a p. refl; whole = refl };
          };
      told = λ v r e n. tt;
    }

pub identity_law : CommandLaw identity_key
identity_law =
    record {
      short = λ r. short (take 96 (drop 304 r.handoff)) (omega (arith, length-take 96 (drop 304 r.handoff)));
      blind = λ r d s t. refl;
      no_11 = λ v r f. (λ e z. omega arith, λ e. tt);
      serves = λ v r n. idle v;
      told = λ v r e n. tt;
    }

pub verify_law : CommandLaw verify_signature
verify_law =
    record {
      short = λ r. short [] (omega arith);
      blind = λ r d s t. refl;
      no_11 = λ v r f. (λ e z. omega arith, λ e. tt);
      serves = λ v r n. idle v;
      told = λ v r e n. tt;
    }

-- an extension rests on its register, and is served only while on
pub extend_law : CommandLaw extend_register
unfolding index_ok
extend_law =
    record {
      short = λ r. short [] (omega arith);
      blind = λ r d s t. refl;
      no_11 = λ v r f. (λ e z. omega arith, λ e. (λ q z. omega arith, λ q. tt));
      serves = λ v r n.
          record {
            index = λ m e. negated (extendable (extension_in r).register) n.0;
            granted = tt;
            request = refl;
            steady = λ o. absurd (true≢false (sym (negated v.on n.1.0) ∙ o));
          };
      told = λ v r e n. digest_long r.bytes extend_length (eqb-true (length r.bytes) extend_length e) (omega arith);
    }

-- a tree command rests on what its rules saw, and is served only while on
pub invoke_law : CommandLaw invoke_dpe
invoke_law =
    record {
      short = λ r. short (bytes4 0) (omega arith);
      blind = λ r d s t. refl;
      no_11 = λ v r f. (
        λ e. tt,
        λ e. (
          λ q. absurd (true≢false (sym q ∙ ap not (f (negated v.on e)))),
          λ q. (λ z. tt, λ z. (λ z. tt, λ z. (λ z. tt, λ z. (λ z. tt, λ z. (λ z. tt, λ z. (λ z. tt, λ z. (λ z. tt, λ z. tt))))))),
        ),
      );
      serves = λ v r n.
          let o = order_in r in
          record {
            index = order_index v.nodes o.command o.fresh o.caller n.1.1;
            granted = n.1.1;
            request = refl;
            steady = λ off. absurd (true≢false (sym (negated v.on n.0) ∙ off));
          };
      told = λ v r e n.
          let c = command_in (drop 8 r.bytes) in
          order_told_law v.nodes c r.fresh (command_sized (drop 8 r.bytes)) n.1.1.0 n.1.1.1.1.1.0;
    }

pub unknown_law : CommandLaw unknown_command
unknown_law =
    record { short = λ r. short [] (omega arith); blind = λ r d s t. refl; no_11 = λ v r f. tt; serves = λ v r n. idle v; told = λ v r e n. tt }
