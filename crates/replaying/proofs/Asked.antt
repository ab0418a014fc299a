-- Where an entry counts, the request for its work is accepted. Assumes nothing.
use mathlib.Core.Path.{◌≡◌, refl, sym, ap, ◌∙◌, subst}
use Prim.Native.Nat.{ℕ, ◌+◌, ◌-◌, ◌*◌, ◌%◌, ◌^◌, ◌≤◌, ◌<◌}
use native.Mathlib.Omega.{arith}
use mathlib.Core.Bool.{Bool, true, false, not}
use mathlib.Core.List.{List, [], ◌∷◌, ◌++◌, append-nil}
use lib.Dec.{eqb}
use lib.ListN.{length, get_or, take, length-append}
use lib.Seq.{take-append_seam, get_or-append-add}
use borrow.Author.Tests.{eq-eqb, le-leb}
use Rattle.layout.specs.Words.{le32, bytes4}
use Rattle.layout.specs.Refusals as number
use Rattle.layout.proofs.Packing.{joined}
use Rattle.layout.proofs.Cases.{and_left, and_right}
use Rattle.message.specs.Checksum.{sum_of, checksum_of}
use Rattle.opening.specs.Orders.{NodeCommand, command_in}
use Rattle.opening.specs.Tasks.{Request, Measurement, RegisterExtension, Order, Ruling, accepted, disable_command, stash, extension, invoke, View}
use Rattle.opening.specs.Rules.{Rule, decide, wrong_checksum, stash_code, disable_code, extend_code, invoke_code, data_max, measurement_in, extension_in, order_in, stash_rules, extend_rules, invoke_rules, invoke_dpe, answer_of, command_of, declined, served, request_rules}
use Rattle.opening.proofs.Decided.{NoneApply}
use Rattle.history.proofs.Ground.{ruling}
use Rattle.replaying.specs.Replay.{passes, measurement_from, extension_from}
use Rattle.replaying.specs.Asked.{sealed, stash_asked, extension_asked, disable_asked, invoke_asked}
use Rattle.replaying.proofs.Data.{asked_for}

-- ---- no rule applies

pub all_passed : (rs : List Rule) → passes rs ≡ true → NoneApply rs
all_passed [] e = tt
all_passed (r ∷ rs) e = (not-true r.applies (and_left (not r.applies) (passes rs) e), all_passed rs (and_right (not r.applies) (passes rs) e))
  where
    not-true : (b : Bool) → not b ≡ true → b ≡ false
    not-true true q = sym q
    not-true false q = refl

none_decide : (rs : List Rule) (D : ℕ → Ruling) (R : Ruling) → NoneApply rs → decide rs D R ≡ R
none_decide [] D R n = refl
none_decide (r ∷ rs) D R n = rw n.0 (none_decide rs D R n.1)

-- a request of which no rule applies is served
rules_passed : (v : View) (r : Request) → NoneApply (request_rules v r) → ruling v r ≡ served (command_of r.code) r
unfolding ruling
rules_passed v r n = none_decide (request_rules v r) declined (served (command_of r.code) r) n

-- ---- a sealed request

checksum_small : (code : ℕ) (l : List ℕ) → checksum_of code l < 2 ^ 32
unfolding checksum_of
checksum_small code l = mod_small (2 ^ 32 - (sum_of (bytes4 code) + sum_of l) % 2 ^ 32)
  where
    mod_small : (x : ℕ) → x % 2 ^ 32 < 2 ^ 32
    mod_small x = omega arith

sealed_right : (code : ℕ) (l : List ℕ) → wrong_checksum code (sealed code l) ≡ false
unfolding wrong_checksum
sealed_right code l = ap not (eq-eqb (le32 (sealed code l) 0) (checksum_of code l) (joined (checksum_of code l) (checksum_small code l)))

sealed_length : (code : ℕ) (l : List ℕ) (n : ℕ) → 4 + length l ≡ n → eqb (length (sealed code l)) n ≡ true
sealed_length code l n e = eq-eqb (length (sealed code l)) n (omega (arith, length-append (bytes4 (checksum_of code l)) l))

-- ---- each request

module _ (v : View) (done : v.done ≡ true) where
  pub disable_accepted : ruling v disable_asked ≡ accepted disable_command (answer_of [])
  disable_accepted = rules_passed v disable_asked (ap not done, (refl, (ap not (sealed_length disable_code [] 4 (omega arith)), (sealed_right disable_code [], tt))))

  module _ (register : ℕ) (digest : List ℕ) (small : register < 2 ^ 32) (long : length digest ≡ 48) where
    pub extension_in_law : extension_in (extension_asked register digest) ≡ extension_from register digest
    extension_in_law i = record { register = joined register small i; digest = same i }
      where
        same : take 48 digest ≡ digest
        same = ap (λ (n : ℕ). take n digest) (sym long) ∙ ap (take (length digest)) (sym (append-nil digest)) ∙ take-append_seam digest []

    pub extension_accepted : passes (extend_rules v (extension_from register digest)) ≡ true
        → ruling v (extension_asked register digest) ≡ accepted (extension (extension_from register digest)) (answer_of [])
    extension_accepted p =
        rules_passed v (extension_asked register digest) (
          ap not done,
          (
            refl,
            (
              ap not (sealed_length extend_code (bytes4 register ++ digest) 56 (omega arith)),
              (sealed_right extend_code (bytes4 register ++ digest), subst (λ (e : RegisterExtension). NoneApply (extend_rules v e)) (sym extension_in_law) (all_passed (extend_rules v (extension_from register digest)) p)),
            ),
          ),
        )
        ∙ ap (λ (e : RegisterExtension). accepted (extension e) (answer_of [])) extension_in_law

  module _ (type : ℕ) (digest : List ℕ) (svn caller : ℕ) (small : type < 2 ^ 32) (long : length digest ≡ 48) (low : svn < 2 ^ 32) where
    abbrev rest : List ℕ
    rest = bytes4 type ++ (digest ++ bytes4 svn)

    pub measurement_in_law : measurement_in (stash_asked type digest svn caller) ≡ measurement_from type digest svn caller
    measurement_in_law i = record { type = joined type small i; digest = same i; svn = last i; caller = caller }
      where
        same : take 48 (digest ++ bytes4 svn) ≡ digest
        same = ap (λ (n : ℕ). take n (digest ++ bytes4 svn)) (sym long) ∙ take-append_seam digest (bytes4 svn)

        at : (k : ℕ) → get_or (digest ++ bytes4 svn) (48 + k) 0 ≡ get_or (bytes4 svn) k 0
        at k = ap (λ (n : ℕ). get_or (digest ++ bytes4 svn) (n + k) 0) (sym long) ∙ get_or-append-add digest (bytes4 svn) k 0

        last : le32 (sealed stash_code rest) 56 ≡ svn
        last = (λ i. at 0 i + 256 * at 1 i + 65536 * at 2 i + 16777216 * at 3 i) ∙ joined svn low

    pub stash_accepted : passes (stash_rules v (measurement_from type digest svn caller)) ≡ true
        → ruling v (stash_asked type digest svn caller) ≡ accepted (stash (measurement_from type digest svn caller)) (answer_of (bytes4 number.dpe_accepted))
    stash_accepted p =
        rules_passed v (stash_asked type digest svn caller) (
          ap not done,
          (
            refl,
            (
              ap not (sealed_length stash_code rest 60 (omega (arith, length-append digest (bytes4 svn)))),
              (sealed_right stash_code rest, subst (λ (m : Measurement). NoneApply (stash_rules v m)) (sym measurement_in_law) (all_passed (stash_rules v (measurement_from type digest svn caller)) p)),
            ),
          ),
        )
        ∙ ap (λ (m : Measurement). accepted (stash m) (answer_of (bytes4 number.dpe_accepted))) measurement_in_law

  -- a tree command
  module _ (content fresh : List ℕ) (caller : ℕ) (c : NodeCommand) (reads : command_in content ≡ c) (short : length content ≤ data_max) where
    pub order_in_law : order_in (invoke_asked content fresh caller) ≡ asked_for c fresh caller
    order_in_law = ap (λ (n : NodeCommand). asked_for n fresh caller) reads

    size : le32 (sealed invoke_code (bytes4 (length content) ++ content)) 4 ≡ length content
    size = joined (length content) (omega arith)

    length_right : invoke_dpe.length_ok (sealed invoke_code (bytes4 (length content) ++ content)) ≡ true
    length_right =
        rw (
          le-leb 8 (length (sealed invoke_code (bytes4 (length content) ++ content))) (omega arith),
          size,
          le-leb (length content) data_max short,
          eq-eqb (length (sealed invoke_code (bytes4 (length content) ++ content))) (8 + length content) (omega arith),
        )

    pub invoke_accepted : passes (invoke_rules v (asked_for c fresh caller)) ≡ true
        → ruling v (invoke_asked content fresh caller) ≡ accepted (invoke (asked_for c fresh caller)) (answer_of (bytes4 number.dpe_accepted))
    invoke_accepted p =
        rules_passed v (invoke_asked content fresh caller) (
          ap not done,
          (
            refl,
            (
              ap not length_right,
              (
                sealed_right invoke_code (bytes4 (length content) ++ content),
                subst (λ (o : Order). NoneApply (invoke_rules v o)) (sym order_in_law) (all_passed (invoke_rules v (asked_for c fresh caller)) p),
              ),
            ),
          ),
        )
        ∙ ap (λ (o : Order). accepted (invoke o) (answer_of (bytes4 number.dpe_accepted))) order_in_law
