-- An entry that replay counts is made on the image that shows the replay, and leaves the image that shows it with that entry; one that replay does not
-- count is not made there. Assumes nothing.
use mathlib.Core.Path.{◌≡◌, refl, sym, ap, ◌∙◌, subst}
use Prim.Native.Nat.{ℕ, ◌-◌, ◌<◌}
use native.Mathlib.Omega.{arith}
use mathlib.Core.Bool.{Bool, true, false, cond, not, ◌&&◌, ◌||◌, or-false, or-true, true≢false, false≢true}
use mathlib.Core.List.{List, [], ◌∷◌, ◌++◌}
use mathlib.Core.Option.{Option, none, some}
use Rattle.std.specs.Prelude.{⊤}
use borrow.Author.Tests.{lt-ltb, not-true, not-false}
use lib.Dec.{ltb, lit<}
use lib.ListN.{length}
use Rattle.layout.specs.Sizes.{image_words, mark_at}
use Rattle.layout.specs.Words.{bytes4}
use Rattle.layout.specs.Refusals as number
use Rattle.layout.proofs.Tab.{length_zeros, get_d_zeros}
use Rattle.table.specs.Table.{number_of}
use Rattle.work.specs.Entries.{well_shaped, left_of}
use Rattle.making.specs.Made.{work_with}
use Rattle.making.specs.Run.{all_stores}
use Rattle.journal.specs.Entries.{Entry, cold_boot, update, disabling, stash, extension, derive, extend, rotate, destroy, EntryOk}
use Rattle.opening.specs.Orders.{NodeCommand}
use Rattle.opening.specs.Orders as command
use Rattle.opening.specs.Tasks.{Request, BootInputs, Task, no_stores, Ruling, accepted, View}
use Rattle.opening.specs.Tasks as task
use Rattle.opening.specs.Rules.{Rule, inputs_ok, answer_of, command_of, stash_rules, extend_rules, invoke_rules, request_rules, update_task}
use Rattle.opening.specs.Works.{work_at}
use Rattle.opening.specs.Openings.{opened_of, booted_of, open_cold_boot, cold_booted}
use Rattle.opening.specs.declared.Opened.{Opened}
use Rattle.opening.specs.declared.Outcome.{Outcome}
use Rattle.opening.proofs.Decided.{NoneApply, ruled_decided}
use Rattle.history.specs.Ledger.{blank, kind_at, state_of, any, disables, is_disable_command, is_off, view_of}
use Rattle.history.proofs.Good.{Good, good_cold}
use Rattle.history.proofs.Ground.{image_after, Ground, sound, broken, ground_length, stores_at, FitsRuling, ruling, fits_rule, fits_boot}
use Rattle.history.proofs.Sim.{opened_left}
use Rattle.history.proofs.Demand.{cold_image_law}
use Rattle.replaying.specs.Replay.{Replay, fresh, task_of, boot_from, measurement_from, extension_from, view_at, passes, countable, off_after, counted}
use Rattle.replaying.specs.Asked.{stash_asked, extension_asked, disable_asked, invoke_asked, derive_data, extend_data, rotate_data, destroy_data}
use Rattle.replaying.proofs.Honest.{passed}
use Rattle.replaying.proofs.Data.{asked_for, OrderAsked, derive_asked, extend_asked, rotate_asked, destroy_asked}
use Rattle.replaying.proofs.Asked.{stash_accepted, extension_accepted, disable_accepted, invoke_accepted, measurement_in_law, extension_in_law, order_in_law}
use Rattle.replaying.proofs.Converse.{replay_of, same_view, inputs_fine, counted_cold, counted_more}
use Rattle.recount.specs.OnImage.{is_ready, request_made, is_updated, update_made, cold_made, made_on}
use Rattle.recount.proofs.Shown.{shown, Reach, unbooted, booted, request_opens, update_opens, all_stored}

-- ---- what an opening makes

abbrev opened_made : List ℕ → Opened ⊤ → Option (List ℕ)
opened_made l o = cond (is_ready o.status && ltb 0 (left_of o.work)) (some (all_stores o.work l).image) none

abbrev booted_made : List ℕ → Opened Outcome → Option (List ℕ)
booted_made l o = cond (is_updated o.status) (some (all_stores o.work l).image) none

-- an update boot, from "is it off"
abbrev boot_made : List ℕ → BootInputs → Bool → Option (List ℕ)
boot_made l x off = booted_made l (booted_of l (accepted (update_task (not off) true x) []))

-- a declined request has no store
idle_left : (l a : List ℕ) → left_of (work_at l no_stores a) ≡ 0
unfolding left_of work_at work_with number_of
idle_left l a = by_test (well_shaped (work_at l no_stores a))
  where
    by_test : (b : Bool) → cond b (0 - 0) 0 ≡ 0
    by_test true = refl
    by_test false = refl

-- the history with a task more, whose stores were all made
abbrev Grown : List Task → Task → Option (List ℕ) → Type 0
Grown h tk m = (m ≡ some (image_after (h ++ (tk ∷ [])))) × Reach (replay_of (h ++ (tk ∷ [])))

module _ {l : List ℕ} {h : List Task} {t u : Bool} (here : Ground l h t u) where
  request_ruled : (r : Request) → request_made l r ≡ opened_made l (opened_of l (ruling (view_of h t u) r))
  unfolding request_made
  request_ruled r = ap (opened_made l) (request_opens here r)

  request_made_law : (r : Request) (tk : Task) (a : List ℕ) → t ≡ false → ruling (view_of h t u) r ≡ accepted tk a → 0 < stores_at (state_of h).chain tk
      → Grown h tk (request_made l r)
  request_made_law r tk a q e p = (
    request_ruled r ∙ ap (λ (R : Ruling). opened_made l (opened_of l R)) e ∙ rw (lt-ltb 0 (left_of (work_at l tk a)) some_left) (ap some w.0),
    w.1,
  )
    where
      f : FitsRuling h t u false (accepted tk a)
      f = subst (FitsRuling h t u false) e (fits_rule h t u r)

      some_left : 0 < left_of (work_at l tk a)
      some_left = omega (arith, opened_left here tk a f.0 f.1 f.3)

      w : ((all_stores (work_at l tk a) l).image ≡ image_after (h ++ (tk ∷ []))) × Reach (replay_of (h ++ (tk ∷ [])))
      w = all_stored here tk a f.0 f.1 f.3 q p

  -- refused or declined
  request_none : (r : Request) → (NoneApply (request_rules (view_of h t u) r) → ⊥) → request_made l r ≡ none
  unfolding ruling
  request_none r refuses =
      request_ruled r
      ∙ ruled_decided (λ (R : Ruling). opened_made l (opened_of l R) ≡ none) (request_rules (view_of h t u) r) (command_of r.code) r
      (λ n. refl)
      (λ n. rw (idle_left l (answer_of (bytes4 n))))
      (λ n. absurd (refuses n))

  update_ruled : (x : BootInputs) → inputs_ok x ≡ true → update_made l x ≡ boot_made l x (is_off h t)
  unfolding update_made
  update_ruled x i = ap (booted_made l) (update_opens here x i)

  update_made_law : (x : BootInputs) → inputs_ok x ≡ true → t ≡ false → is_off h t ≡ false → Grown h (task.update x) (update_made l x)
  unfolding number_of kind_at
  update_made_law x i q e =
      let f = subst (λ (b : Bool). FitsRuling h t u true (accepted (update_task (not b) true x) [])) e (fits_boot h t u true x i) in
      let w = all_stored here (task.update x) [] f.0 f.1 f.3 q (omega arith) in
      (update_ruled x i ∙ ap (boot_made l x) e ∙ ap some w.0, w.1)

  -- while off it is a disabling
  update_none : (x : BootInputs) → inputs_ok x ≡ true → is_off h t ≡ true → update_made l x ≡ none
  update_none x i e = update_ruled x i ∙ ap (boot_made l x) e

-- ---- a cold boot, on any image of the right length

cold_made_law : (l : List ℕ) → length l ≡ image_words → (x : BootInputs) → inputs_ok x ≡ true → Grown [] (task.cold_boot x) (cold_made l x)
unfolding cold_made open_cold_boot cold_booted state_of
cold_made_law l n x i = (
  rw (n, i) (ap some (rw (n, i) at (cold_image_law l x (rw (n, i))))),
  booted (task.cold_boot x ∷ []) (good_cold blank.chain x) refl refl,
)

-- ---- entry by entry

abbrev Counted : Replay → Entry → Type 0
Counted x e = (made_on (shown x) e ≡ some (shown (counted x e))) × Reach (counted x e)

-- the image and the replay have gone on to the same history
gone_on : (x : Replay) (h : List Task) (e : Entry) → counted x e ≡ replay_of (h ++ (task_of e ∷ [])) → Grown h (task_of e) (made_on (shown x) e) → Counted x e
gone_on x h e q w = (w.0 ∙ ap (λ (y : Replay). some (shown y)) (sym q), subst Reach (sym q) w.1)

cold_counted : (x : Replay) → length (shown x) ≡ image_words → (r m : List ℕ) → EntryOk (cold_boot r m) → Counted x (cold_boot r m)
unfolding made_on
cold_counted x n r m ok = gone_on x [] (cold_boot r m) (counted_cold x r m) (cold_made_law (shown x) n (boot_from r m) (inputs_fine r m ok.0 ok.1.0))

-- before the first cold boot: the mark is not 1
abbrev none_yet : Ground (shown fresh) [] true true
none_yet = broken (length_zeros image_words) (get_d_zeros image_words mark_at (lit< tt))

fresh_made : (e : Entry) → EntryOk e → countable fresh e ≡ true → Counted fresh e
fresh_made (cold_boot r m) ok c = cold_counted fresh (ground_length none_yet) r m ok
fresh_made (update r m) ok c = absurd (false≢true c)
fresh_made disabling ok c = absurd (false≢true c)
fresh_made (stash t d s k) ok c = absurd (false≢true c)
fresh_made (extension r d) ok c = absurd (false≢true c)
fresh_made (derive h r t d f k) ok c = absurd (false≢true c)
fresh_made (extend h d k) ok c = absurd (false≢true c)
fresh_made (rotate h f k) ok c = absurd (false≢true c)
fresh_made (destroy h k) ok c = absurd (false≢true c)

fresh_none : (e : Entry) → EntryOk e → countable fresh e ≡ false → made_on (shown fresh) e ≡ none
unfolding made_on view_of
fresh_none (cold_boot r m) ok c = absurd (true≢false c)
fresh_none (update r m) ok c = update_none none_yet (boot_from r m) (inputs_fine r m ok.0 ok.1.0) refl
fresh_none disabling ok c = request_none none_yet disable_asked (λ n. true≢false n.0)
fresh_none (stash t d s k) ok c = request_none none_yet (stash_asked t d s k) (λ n. true≢false n.0)
fresh_none (extension r d) ok c = request_none none_yet (extension_asked r d) (λ n. true≢false n.0)
fresh_none (derive h r t d f k) ok c = request_none none_yet (invoke_asked (derive_data h r t d) f k) (λ n. true≢false n.0)
fresh_none (extend h d k) ok c = request_none none_yet (invoke_asked (extend_data h d) [] k) (λ n. true≢false n.0)
fresh_none (rotate h f k) ok c = request_none none_yet (invoke_asked (rotate_data h) f k) (λ n. true≢false n.0)
fresh_none (destroy h k) ok c = request_none none_yet (invoke_asked (destroy_data h) [] k) (λ n. true≢false n.0)

-- behind a history
module _ (h : List Task) (g : Good (state_of h).chain) (o : any disables h ≡ any is_disable_command h) where
  here : Ground (image_after h) h false false
  here = sound g o refl

  goes_on : (e : Entry) → off_after (any disables h) e ≡ (any disables h || disables (task_of e)) → Grown h (task_of e) (made_on (image_after h) e)
      → Counted (replay_of h) e
  goes_on e f w = gone_on (replay_of h) h e (counted_more h e f) w

  -- a request that is served
  asked : (r : Request) (tk : Task) (a : List ℕ) → ruling (view_at (replay_of h)) r ≡ accepted tk a → 0 < stores_at (state_of h).chain tk
      → Grown h tk (request_made (image_after h) r)
  asked r tk a e p = request_made_law here r tk a refl (ap (λ (v : View). ruling v r) (same_view h) ∙ e) p

  -- and one of which a rule of its command applies
  unserved : (r : Request) (rs : List Rule) → (command_of r.code).rules (view_of h false false) r ≡ rs → passes rs ≡ false
      → request_made (image_after h) r ≡ none
  unserved r rs e c = request_none here r (λ n. true≢false (sym (passed rs (subst NoneApply e n.1.1.1.1)) ∙ c))

  -- the request for a tree command's entry
  module _ (e : Entry) (content new : List ℕ) (caller : ℕ) (c : NodeCommand) (w : OrderAsked e content new caller c) where
    order_made : made_on (image_after h) e ≡ request_made (image_after h) (invoke_asked content new caller) → countable (replay_of h) e ≡ true
        → Grown h (task_of e) (made_on (image_after h) e)
    order_made q k =
        let r = invoke_asked content new caller in
        let a = answer_of (bytes4 number.dpe_accepted) in
        let m = asked r (task_of e) a
        (invoke_accepted (view_at (replay_of h)) refl content new caller c w.reads w.short (sym (w.counts (replay_of h)) ∙ k)
        ∙ ap (λ (t : Task). accepted t a) (sym w.task))
        (w.stores (state_of h).chain) in
        (q ∙ m.0, m.1)

    order_none : made_on (image_after h) e ≡ request_made (image_after h) (invoke_asked content new caller) → countable (replay_of h) e ≡ false
        → made_on (image_after h) e ≡ none
    order_none q k =
        q
        ∙ unserved (invoke_asked content new caller) (invoke_rules (view_at (replay_of h)) (asked_for c new caller))
        (λ i. invoke_rules (same_view h i) (order_in_law (view_at (replay_of h)) refl content new caller c w.reads w.short i))
        (sym (w.counts (replay_of h)) ∙ k)

  booted_made_law : (e : Entry) → EntryOk e → countable (replay_of h) e ≡ true → Counted (replay_of h) e
  unfolding made_on number_of kind_at
  booted_made_law (cold_boot r m) ok c = cold_counted (replay_of h) (ground_length here) r m ok
  booted_made_law (update r m) ok c =
      goes_on (update r m) (sym (or-false (any disables h)))
      (update_made_law here (boot_from r m) (inputs_fine r m ok.0 ok.1.0) refl (not-true (any disables h) c))
  booted_made_law disabling ok c =
      goes_on disabling (sym (or-true (any disables h)))
      (asked disable_asked (task_of disabling) (answer_of []) (disable_accepted (view_at (replay_of h)) refl) (omega arith))
  booted_made_law (stash t d s k) ok c =
      goes_on (stash t d s k) (sym (or-false (any disables h)))
      (asked (stash_asked t d s k) (task_of (stash t d s k)) (answer_of (bytes4 number.dpe_accepted))
      (stash_accepted (view_at (replay_of h)) refl t d s k ok.0 ok.1.0 ok.1.1.0 c) (omega arith))
  booted_made_law (extension r d) ok c =
      goes_on (extension r d) (sym (or-false (any disables h)))
      (asked (extension_asked r d) (task_of (extension r d)) (answer_of []) (extension_accepted (view_at (replay_of h)) refl r d ok.0 ok.1.0 c) (omega arith))
  booted_made_law (derive n r t d f k) ok c =
      goes_on (derive n r t d f k) (sym (or-false (any disables h)))
      (order_made (derive n r t d f k) (derive_data n r t d) f k (command.derive n r t d) (derive_asked n r t d f k ok) refl c)
  booted_made_law (extend n d k) ok c =
      goes_on (extend n d k) (sym (or-false (any disables h))) (order_made (extend n d k) (extend_data n d) [] k (command.extend n d) (extend_asked n d k ok) refl c)
  booted_made_law (rotate n f k) ok c =
      goes_on (rotate n f k) (sym (or-false (any disables h))) (order_made (rotate n f k) (rotate_data n) f k (command.rotate n) (rotate_asked n f k ok) refl c)
  booted_made_law (destroy n k) ok c =
      goes_on (destroy n k) (sym (or-false (any disables h))) (order_made (destroy n k) (destroy_data n) [] k (command.destroy n) (destroy_asked n k ok) refl c)

  booted_none : (e : Entry) → EntryOk e → countable (replay_of h) e ≡ false → made_on (image_after h) e ≡ none
  unfolding made_on
  booted_none (cold_boot r m) ok c = absurd (true≢false c)
  booted_none (update r m) ok c = update_none here (boot_from r m) (inputs_fine r m ok.0 ok.1.0) (not-false (any disables h) c)
  booted_none disabling ok c = absurd (true≢false c)
  booted_none (stash t d s k) ok c =
      unserved (stash_asked t d s k) (stash_rules (view_at (replay_of h)) (measurement_from t d s k))
      (λ i. stash_rules (same_view h i) (measurement_in_law (view_at (replay_of h)) refl t d s k ok.0 ok.1.0 ok.1.1.0 i))
      c
  booted_none (extension r d) ok c =
      unserved (extension_asked r d) (extend_rules (view_at (replay_of h)) (extension_from r d))
      (λ i. extend_rules (same_view h i) (extension_in_law (view_at (replay_of h)) refl r d ok.0 ok.1.0 i))
      c
  booted_none (derive n r t d f k) ok c = order_none (derive n r t d f k) (derive_data n r t d) f k (command.derive n r t d) (derive_asked n r t d f k ok) refl c
  booted_none (extend n d k) ok c = order_none (extend n d k) (extend_data n d) [] k (command.extend n d) (extend_asked n d k ok) refl c
  booted_none (rotate n f k) ok c = order_none (rotate n f k) (rotate_data n) f k (command.rotate n) (rotate_asked n f k ok) refl c
  booted_none (destroy n k) ok c = order_none (destroy n k) (destroy_data n) [] k (command.destroy n) (destroy_asked n k ok) refl c

-- ---- the image goes on as the replay does

pub recount_made : (x : Replay) → Reach x → (e : Entry) → EntryOk e → countable x e ≡ true
    → (made_on (shown x) e ≡ some (shown (counted x e))) × Reach (counted x e)
recount_made x (unbooted q) e ok c = subst (λ (y : Replay). Counted y e) (sym q) (fresh_made e ok (subst (λ (y : Replay). countable y e ≡ true) q c))
recount_made x (booted h g o q) e ok c = subst (λ (y : Replay). Counted y e) (sym q) (booted_made_law h g o e ok (subst (λ (y : Replay). countable y e ≡ true) q c))

pub recount_none : (x : Replay) → Reach x → (e : Entry) → EntryOk e → countable x e ≡ false → made_on (shown x) e ≡ none
recount_none x (unbooted q) e ok c =
    ap (λ (y : Replay). made_on (shown y) e) q ∙ fresh_none e ok (subst (λ (y : Replay). countable y e ≡ false) q c)
recount_none x (booted h g o q) e ok c =
    ap (λ (y : Replay). made_on (shown y) e) q ∙ booted_none h g o e ok (subst (λ (y : Replay). countable y e ≡ false) q c)
