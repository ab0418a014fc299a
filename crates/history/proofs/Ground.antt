-- What the image is between works, beside the ledger's history, torn and unfinished; what may be opened there; and what a finished work leaves.
-- Assumes nothing.
use mathlib.Core.Path.{◌≡◌, refl, sym, ap, ◌∙◌, subst}
use mathlib.Core.Logic.{◌⊎◌, inl, inr}
use Prim.Native.Nat.{ℕ, ◌≤◌, ◌<◌, zero-le}
use native.Mathlib.Nat.{not-suc-le-zero}
use native.Mathlib.Omega.{arith}
use mathlib.Core.Bool.{Bool, true, false, cond, not, ◌&&◌, ◌||◌, or-false, true≢false, false≢true}
use mathlib.Core.List.{List, [], ◌∷◌, ◌++◌, foldl-append}
use mathlib.Core.Option.{Option}
use lib.Dec.{eqb}
use borrow.Author.Tests.{lt-ltb, eqb-true}
use Rattle.layout.proofs.Cases.{and_left, and_right}
use lib.ListN.{length, get_or}
use Rattle.layout.specs.Sizes.{node_count, image_words, mark_at, attestation_at, answer_max}
use Rattle.layout.specs.declared.refusals.Refusal.TheVariants as refusal
use Rattle.tree.specs.Tree.{Tree, well_formed}
use Rattle.tree.specs.Nodes.{tree_in}
use Rattle.table.specs.Table.{number_of, index_ok}
use Rattle.table.specs.declared.Kind.{Kind}
use Rattle.table.specs.declared.Put.{Put}
use Rattle.work.proofs.Plans.{apply, length_apply}
use Rattle.opening.specs.Tasks.{Request, BootInputs, Task, no_stores, kept_boot, update, Ruling, refused, accepted, View}
use Rattle.opening.specs.Rules.{refuses, wrong_checksum, Command, command_of, served, ruled, command_rules, request_rules, inputs_ok, update_task}
use Rattle.opening.specs.Works.{facts_of}
use Rattle.opening.proofs.Decided.{NoneApply, ruled_decided, negated}
use Rattle.opening.proofs.Recorded.{Told}
use Rattle.command_laws.proofs.ByCommand.{Steady, Granted, Served, CommandLaw, declined_short}
use Rattle.command_laws.proofs.ByCode.{command_law}
use Rattle.opening.specs.declared.Outcome.{Outcome}
use Rattle.opening.specs.Openings.{view_in, intact}
use Rattle.history.specs.Ledger.{Chain, Contents, tree_at, next, blank, state_of, kind_at, image_of, any, disables, is_none, is_disable_command, is_off, view_of}
use Rattle.history.specs.Demand.{Shut}
use Rattle.history.proofs.Encoded.{length_image, mark_read, attestation_read}
use Rattle.history.proofs.Good.{Good, root_below, formed_good, good_tree, matches_good}
use Rattle.history.proofs.Runs.{plan_at, off_plan, off_mark, off_shut}
use Rattle.history.proofs.Laws.{is_cold, Allowed, Law, laws}

-- attestation's word, from "is it off"
abbrev pub attestation_word : Bool → ℕ
attestation_word off = cond off 0 1

-- the image that a history makes
abbrev pub image_after : List Task → List ℕ
image_after h = image_of 1 (attestation_word (any disables h)) (state_of h)

-- image, history, torn, unfinished. Nothing torn: the image is the history's, and a boot has disabled only where a command had. Torn: a disabling has
-- run to its end since, or the mark is 0
pub data Ground : List ℕ → List Task → Bool → Bool → Type 0 where
  sound : {l : List ℕ} {h : List Task} → Good (state_of h).chain → any disables h ≡ any is_disable_command h → l ≡ image_after h → Ground l h false false
  locked : {l : List ℕ} {h : List Task} → length l ≡ image_words → get_or l mark_at 0 ≡ 1 → Shut l → Ground l h true false
  broken : {l : List ℕ} {h : List Task} → length l ≡ image_words → get_or l mark_at 0 ≡ 0 → Ground l h true true

pub ground_length : {l : List ℕ} {h : List Task} {t u : Bool} → Ground l h t u → length l ≡ image_words
ground_length {h = h} (sound g o e) = ap length e ∙ length_image 1 (attestation_word (any disables h)) (state_of h) g.shape
ground_length (locked n m s) = n
ground_length (broken n m) = n

-- nothing torn, nothing unfinished
pub calm : {l : List ℕ} {h : List Task} {t u : Bool} → Ground l h t u → t ≡ false → u ≡ false
calm (sound g o e) q = refl
calm (locked n m s) q = refl
calm (broken n m) q = q

-- ---- a task that may be opened there

-- the number of its stores, at a chain
abbrev pub stores_at : Chain → Task → ℕ
stores_at x tk = number_of (kind_at x tk)

pub record Fits (h : List Task) (t u : Bool) (tk : Task) : Type 0 where
  -- with nothing to store: nothing is unfinished, or nothing was torn
  pub rest : stores_at (state_of h).chain tk ≡ 0 → (u ≡ false) ⊎ (t ≡ false)
  -- where one was torn it does not look at the nodes, and stores only if it disables
  pub torn : t ≡ true → Steady tk
  pub allowed : t ≡ false → Good (state_of h).chain → Allowed (state_of h).chain tk
  -- a boot disables only where attestation is off
  pub off : t ≡ false → disables tk ≡ true → (is_disable_command tk ≡ true) ⊎ (any disables h ≡ true)

-- the nodes of a history's image
sound_tree : (l : List ℕ) (h : List Task) → Good (state_of h).chain → l ≡ image_after h → tree_in l ≡ tree_at (state_of h).chain
sound_tree l h g e = ap tree_in e ∙ good_tree 1 (attestation_word (any disables h)) (state_of h) g

-- what does not look at the nodes is the same at all
steady_kind : (h : List Task) (tk : Task) → Steady tk → (t : Tree) → (facts_of tk).kind t ≡ kind_at (state_of h).chain tk
unfolding kind_at
steady_kind h tk s t = rw s.whole (s.same t (tree_at (state_of h).chain))

-- the kind of work that the image gives is the ledger's
pub kind_same : {l : List ℕ} {h : List Task} {t u : Bool} → Ground l h t u → (tk : Task) → Fits h t u tk
    → (facts_of tk).kind (tree_in l) ≡ kind_at (state_of h).chain tk
kind_same {l} {h} (sound g o e) tk f =
    ap (facts_of tk).kind (sound_tree l h g e) ∙ sym ((laws tk).kind (state_of h).chain g (f.allowed refl g))
kind_same {l} {h} (locked n m s) tk f = steady_kind h tk (f.torn refl) (tree_in l)
kind_same {l} {h} (broken n m) tk f = steady_kind h tk (f.torn refl) (tree_in l)

-- no index of an opened work is beyond the nodes
pub index_ok_law : {l : List ℕ} {h : List Task} {t u : Bool} → Ground l h t u → (tk : Task) → Fits h t u tk
    → index_ok ((facts_of tk).kind (tree_in l)) ((facts_of tk).values l).node ≡ true
index_ok_law {l} {h} (sound g o e) tk f =
    ap (λ (t : Tree). index_ok ((facts_of tk).kind t) ((facts_of tk).values l).node) (sound_tree l h g e)
    ∙ (f.allowed refl g).index l (sound_tree l h g e)
index_ok_law {l} (locked n m s) tk f = (f.torn refl).index (tree_in l) ((facts_of tk).values l).node
index_ok_law {l} (broken n m) tk f = (f.torn refl).index (tree_in l) ((facts_of tk).values l).node

-- ---- one task more in the history

pub any_snoc : (f : Task → Bool) (h : List Task) (t : Task) → any f (h ++ (t ∷ [])) ≡ (any f h || f t)
any_snoc f [] t = or-false (f t)
any_snoc f (x ∷ h) t = step (f x) (any_snoc f h t)
  where
    step : (b : Bool) → any f (h ++ (t ∷ [])) ≡ (any f h || f t) → (b || any f (h ++ (t ∷ []))) ≡ (b || any f h || f t)
    step true e = refl
    step false e = e

pub state_snoc : (h : List Task) (t : Task) → state_of (h ++ (t ∷ [])) ≡ next (state_of h) t
unfolding state_of
state_snoc h t = foldl-append next blank h (t ∷ [])

-- "off by a disabling" and "off by a command" stay the same
same_off : (a b c d : Bool) → a ≡ b → (c ≡ true → (d ≡ true) ⊎ (a ≡ true)) → (d ≡ true → c ≡ true) → (a || c) ≡ (b || d)
same_off true true c d e f g = refl
same_off true false c d e f g = absurd (true≢false e)
same_off false true c d e f g = absurd (false≢true e)
same_off false false true true e f g = refl
same_off false false true false e f g = elim (f refl) [ inl q ↦ sym q | inr q ↦ sym q ]
same_off false false false true e f g = g refl
same_off false false false false e f g = refl

word_off : (a c : Bool) → cond c 0 (attestation_word a) ≡ attestation_word (a || c)
word_off true true = refl
word_off true false = refl
word_off false true = refl
word_off false false = refl

-- ---- a work that is finished

shut_off : (l : List ℕ) (h : List Task) (ps : List Put) → length l ≡ image_words → ps ≡ off_plan → Ground (apply ps l) h true false
shut_off l h ps n e =
    locked (length_apply ps l ∙ n) (ap (λ (p : List Put). get_or (apply p l) mark_at 0) e ∙ off_mark l n)
    (subst (λ (p : List Put). Shut (apply p l)) (sym e) (off_shut l n))

-- where a work was torn, only a disabling has stores
pub torn_plan : (h : List Task) (tk : Task) → Steady tk → 0 < stores_at (state_of h).chain tk → (l : List ℕ) → plan_at l tk ≡ off_plan
torn_plan h tk s p l =
    let t = tree_at (state_of h).chain in
    (laws tk).off (s.quiet t (subst (λ (k : Kind). 0 < number_of k) (sym (steady_kind h tk s t)) p)) l

pub finish : {l : List ℕ} {h : List Task} {t u : Bool} → Ground l h t u → (tk : Task) → Fits h t u tk → 0 < stores_at (state_of h).chain tk
    → Ground (apply (plan_at l tk) l) (h ++ (tk ∷ [])) t false
finish {l} {h} (sound g o e) tk f p =
    sound (subst (λ (x : Contents). Good x.chain) (sym (state_snoc h tk)) (law.keeps (state_of h).chain g a))
    (any_snoc disables h tk
    ∙ same_off (any disables h) (any is_disable_command h) (disables tk) (is_disable_command tk) o (f.off refl)
    (by_command (facts_of tk).disables (is_none (facts_of tk).boot))
    ∙ sym (any_snoc is_disable_command h tk))
    (ap (λ (z : List ℕ). apply (plan_at z tk) z) e
    ∙ law.runs (attestation_word (any disables h)) (state_of h) g a (subst (λ (k : Kind). 0 < number_of k) (law.kind (state_of h).chain g a) p)
    ∙ (λ i. image_of 1 ((word_off (any disables h) (disables tk) ∙ ap attestation_word (sym (any_snoc disables h tk))) i) (sym (state_snoc h tk) i)))
  where
    law : Law tk
    law = laws tk

    a : Allowed (state_of h).chain tk
    a = f.allowed refl g

    by_command : (x y : Bool) → (x && y) ≡ true → x ≡ true
    by_command true y q = refl
    by_command false y q = q
finish {l} {h} (locked n m s) tk f p =
    shut_off l (h ++ (tk ∷ [])) (plan_at l tk) n (torn_plan h tk (f.torn refl) p l)
finish {l} {h} (broken n m) tk f p =
    shut_off l (h ++ (tk ∷ [])) (plan_at l tk) n (torn_plan h tk (f.torn refl) p l)

-- ---- the rules see the same in the image and in the ledger

-- the request rules' decision
unfoldable pub ruling : View → Request → Ruling
ruling v r = ruled (request_rules v r) (command_of r.code) r

-- where attestation is off the rules do not look at the nodes
pub off_rules : (v w : View) (r : Request) → v.done ≡ w.done → v.on ≡ false → w.on ≡ false → ruling v r ≡ ruling w r
unfolding ruling
off_rules v w r p a b =
    (λ i. ruling (record { done = p i; on = a i; nodes = v.nodes }) r)
    ∙ by_command (command_of r.code) ((command_law r.code).blind r w.done v.nodes w.nodes)
    ∙ (λ i. ruling (record { done = w.done; on = sym b i; nodes = w.nodes }) r)
  where
    off : Tree → View
    off t = record { done = w.done; on = false; nodes = t }

    -- all rules, from the command's own
    all : Command → View → Ruling
    all c v = ruled (refuses refusal.Unfinished (not v.done) ∷ refuses refusal.UnknownCode (not c.known) ∷ command_rules c v r) c r

    by_command : (c : Command) → ruled (c.rules (off v.nodes) r) c r ≡ ruled (c.rules (off w.nodes) r) c r
        → all c (off v.nodes) ≡ all c (off w.nodes)
    by_command c e =
        ap (λ (x : Ruling). cond (not w.done) (refused refusal.Unfinished)
        (cond (not c.known) (refused refusal.UnknownCode)
        (cond (not (c.length_ok r.bytes)) (refused refusal.WrongLength) (cond (wrong_checksum r.code r.bytes) (refused refusal.BadChecksum) x)))) e

-- an unfinished mark refuses every request
unfinished_rules : (v : View) (r : Request) → v.done ≡ false → ruling v r ≡ refused refusal.Unfinished
unfolding ruling
unfinished_rules v r e = rw e

attestation_on : (b : Bool) → eqb (attestation_word b) 1 ≡ not b
attestation_on true = refl
attestation_on false = refl

pub rule_same : {l : List ℕ} {h : List Task} {t u : Bool} → Ground l h t u → (r : Request) → ruling (view_in l) r ≡ ruling (view_of h t u) r
unfolding view_in view_of
rule_same {l} {h} (sound g o e) r =
    ap (λ (z : List ℕ). ruling (view_in z) r) e ∙ (λ i. ruling (record { done = done i; on = on i; nodes = good_tree 1 a x g i }) r)
  where
    a : ℕ
    a = attestation_word (any disables h)

    x : Contents
    x = state_of h

    done : eqb (get_or (image_of 1 a x) mark_at 0) 1 ≡ true
    done = rw (mark_read 1 a x)

    on : eqb (get_or (image_of 1 a x) attestation_at 0) 1 ≡ not (any disables h)
    on = rw (attestation_read 1 a x) (attestation_on (any disables h))
rule_same {l} {h} (locked n m s) r = off_rules (view_in l) (view_of h true false) r (rw m) (rw s.off) refl
rule_same {l} {h} (broken n m) r = unfinished_rules (view_in l) r (rw m) ∙ sym (unfinished_rules (view_of h true true) r refl)

-- ---- what the rules accept may be opened; its answer is not longer than the longest, and only a boot opens a boot's task

abbrev pub is_boot : Task → Bool
is_boot tk = not (is_none (facts_of tk).boot)

abbrev pub FitsRuling : List Task → Bool → Bool → Bool → Ruling → Type 0
FitsRuling h t u b (refused n) = Unit {0}
FitsRuling h t u b (accepted tk a) = Fits h t u tk × (length a ≤ answer_max) × (b ≡ is_boot tk) × Told tk

left_false : (t x : Bool) → not (t || x) ≡ true → t ≡ false
left_false true x e = sym e
left_false false x e = refl

-- nothing to store, where nothing is unfinished
idle_fits : (h : List Task) (t : Bool) → Fits h t false no_stores
unfolding number_of index_ok kind_at
idle_fits h t =
    record {
      rest = λ e. inl refl;
      torn = λ e. record { same = λ a b. refl; index = λ a m. refl; quiet = λ a p. absurd (not-suc-le-zero p); whole = refl };
      allowed = λ e g. record { index = λ m q. refl; granted = tt; warm = refl };
      off = λ e q. absurd (false≢true q);
    }

-- the task of a command that nothing refused or declined, by the command's laws
module _ (h : List Task) (t : Bool) (v : View) (r : Request) (off : t ≡ true → v.on ≡ false) (nodes : v.nodes ≡ tree_at (state_of h).chain) where
  fits_command : (command_of r.code).length_ok r.bytes ≡ true → NoneApply ((command_of r.code).rules v r)
      → FitsRuling h t false false (served (command_of r.code) r)
  fits_command e n = (
    record {
      rest = λ e. inl refl;
      torn = λ e. s.steady (off e);
      allowed = λ e g.
          record {
            index = λ m q.
                subst (λ (x : Tree). index_ok ((facts_of tk).kind x) ((facts_of tk).values m).node ≡ true) nodes (s.index m (q ∙ sym nodes));
            granted = subst (λ (x : Tree). Granted x tk) nodes s.granted;
            warm = ap is_cold s.request;
          };
      off = λ e q. inl (rw (q, s.request));
    },
    law.short r,
    sym (ap (λ (o : Option Outcome). not (is_none o)) s.request),
    law.told v r e n,
  )
    where
      tk : Task
      tk = (command_of r.code).task r

      law : CommandLaw (command_of r.code)
      law = command_law r.code

      s : Served v tk
      s = law.serves v r n

pub fits_rule : (h : List Task) (t u : Bool) (r : Request) → FitsRuling h t u false (ruling (view_of h t u) r)
unfolding ruling view_of
fits_rule h t true r = tt
fits_rule h t false r =
    ruled_decided (FitsRuling h t false false) (request_rules (view_of h t false) r) (command_of r.code) r
    (λ n. tt)
    (λ n. (idle_fits h t, declined_short n, refl, tt))
    (λ n. fits_command h t (view_of h t false) r (λ e. ap (λ (x : Bool). not (x || any disables h)) e) refl
    (negated ((command_of r.code).length_ok r.bytes) n.1.1.0)
    n.1.1.1.1)

-- ---- the update boot decides as the ledger does

pub intact_same : {l : List ℕ} {h : List Task} {t u : Bool} → Ground l h t u → intact l ≡ not (is_off h t)
unfolding intact
intact_same {l} {h} (sound g o e) =
    ap intact e
    ∙ rw (
      mark_read 1 a x,
      attestation_read 1 a x,
      attestation_on (any disables h),
      ap (well_formed node_count) (good_tree 1 a x g) ∙ formed_good x.chain g,
      matches_good 1 a x g,
    ) (last (not (any disables h)))
  where
    a : ℕ
    a = attestation_word (any disables h)

    x : Contents
    x = state_of h

    last : (b : Bool) → (b && true) ≡ b
    last true = refl
    last false = refl
intact_same {l} {h} (locked n m s) = rw (m, s.off)
intact_same {l} {h} (broken n m) = rw m

-- a boot's digests have 48 bytes
pub digests_long : (x : BootInputs) → inputs_ok x ≡ true → (length x.runtime ≡ 48) × (length x.manifest ≡ 48)
unfolding inputs_ok
digests_long x e = (
  eqb-true (length x.runtime) 48 (and_left (eqb (length x.runtime) 48) _ e),
  eqb-true (length x.manifest) 48 (and_left (eqb (length x.manifest) 48) _ (and_right (eqb (length x.runtime) 48) _ e)),
)

pub fits_boot : (h : List Task) (t u v : Bool) (b : BootInputs) → inputs_ok b ≡ true → FitsRuling h t u true (accepted (update_task (not (is_off h t)) v b) [])
unfolding number_of index_ok kind_at
fits_boot h t u v b fine = go (is_off h t) refl v
  where
    kept_torn : is_off h t ≡ false → t ≡ false
    kept_torn e = left_false t (any disables h) (ap not e)

    -- a boot that disables nothing, while on
    whole : (tk : Task) → is_off h t ≡ false → (Good (state_of h).chain → Allowed (state_of h).chain tk) → (disables tk ≡ true → ⊥) → Fits h t u tk
    whole tk e a n =
        record {
          rest = λ z. inr (kept_torn e);
          torn = λ q. absurd (true≢false (sym q ∙ kept_torn e));
          allowed = λ q. a;
          off = λ q z. absurd (n z);
        }

    go : (o : Bool) → is_off h t ≡ o → (w : Bool) → FitsRuling h t u true (accepted (update_task (not o) w b) [])
    go true e w = (
      record {
        rest = λ z. absurd (omega arith);
        torn = λ q. record { same = λ x y. refl; index = λ x m. refl; quiet = λ x p. refl; whole = refl };
        allowed = λ q g. record { index = λ m z. refl; granted = tt; warm = refl };
        off = λ q z. inr (ap (λ (x : Bool). x || any disables h) (sym q) ∙ e);
      },
      zero-le,
      refl,
      tt,
    )
    go false e true = (
      whole (update b) e (λ g. record { index = λ m z. rw (lt-ltb _ node_count (root_below (state_of h).chain g)); granted = tt; warm = refl }) (λ z. false≢true z),
      zero-le,
      refl,
      digests_long b fine,
    )
    go false e false = (whole kept_boot e (λ g. record { index = λ m z. refl; granted = tt; warm = refl }) (λ z. false≢true z), zero-le, refl, tt)
