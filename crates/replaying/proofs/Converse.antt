-- What replay accepts, a unit can have counted: the calls that make an entry's work, and the life of a journal. Assumes nothing.
use mathlib.Core.Path.{◌≡◌, refl, sym, ap, ◌∙◌, subst}
use Prim.Native.Nat.{ℕ, zero, suc, ◌+◌, ◌-◌, ◌<◌}
use native.Mathlib.Omega.{arith}
use mathlib.Core.Bool.{Bool, true, false, not, ◌||◌, or-false, or-true, and-false, false≢true}
use mathlib.Core.List.{List, [], ◌∷◌, ◌++◌, append_assoc}
use mathlib.Core.Option.{none, some}
use lib.Dec.{ltb}
use lib.ListN.{length, replicate}
use borrow.Author.Tests.{lt-ltb, le-ltb, eq-eqb, ne_eqb}
use Rattle.layout.specs.Words.{bytes4}
use Rattle.layout.specs.Below.{all_below}
use Rattle.layout.specs.Refusals as number
use Rattle.table.specs.Table.{number_of}
use Rattle.journal.specs.Entries.{Entry, cold_boot, update, disabling, stash, extension, derive, extend, rotate, destroy, EntryOk, EntriesOk, entry_bytes, journal_bytes}
use Rattle.journal.specs.Statements.{Bytes}
use Rattle.journal.proofs.Bytes.{bytes_rest, bytes_front}
use Rattle.sha384.proofs.Sizes.{bytes_append}
use Rattle.opening.specs.Orders.{NodeCommand}
use Rattle.opening.specs.Orders as command
use Rattle.opening.specs.Tasks.{BootInputs, Task, Ruling, accepted, Request, View}
use Rattle.opening.specs.Rules.{inputs_ok, answer_of, stash_code, disable_code, extend_code, invoke_code}
use Rattle.opening.specs.Recorded.{entry_for, entries_for}
use Rattle.history.specs.Calls.{Call, request, update_boot, store, power_cut, run}
use Rattle.history.specs.Ledger.{state_of, any, disables, next_chain, view_of, Job, kind_at, job_at, Ledger, let_go, ledger_request, ledger_step, first_ledger}
use Rattle.history.proofs.Ground.{any_snoc, state_snoc, ruling}
use Rattle.message.specs.Checksum.{checksum_of}
use Rattle.journal.specs.Numbers.{number_bytes}
use Rattle.replaying.specs.Replay.{Replay, fresh, task_of, boot_from, view_at, countable, counted, off_after}
use Rattle.replaying.specs.Asked.{sealed, stash_asked, extension_asked, disable_asked, invoke_asked, derive_data, extend_data, rotate_data, destroy_data}
use Rattle.replaying.specs.Lives.{CallOk, CallsOk, Life, LivesOk, entries_over}
use Rattle.replaying.proofs.Counts.{CountsTo, entries_snoc}
use Rattle.replaying.proofs.Data.{OrderAsked, derive_asked, extend_asked, rotate_asked, destroy_asked}
use Rattle.replaying.proofs.Asked.{stash_accepted, extension_accepted, disable_accepted, invoke_accepted}

-- ---- the ledger between works

abbrev pub rest_at : List Task → Ledger
rest_at h = record { history = h; hand = none; made = 0; torn = false; unfinished = false }

abbrev working : List Task → Job → ℕ → Bool → Ledger
working h j k u = record { history = h; hand = some j; made = k; torn = false; unfinished = u }

run_append : (b : Ledger) (cs ds : List Call) → run ledger_step b (cs ++ ds) ≡ run ledger_step (run ledger_step b cs) ds
run_append b [] ds = refl
run_append b (c ∷ cs) ds = run_append (ledger_step b c).state cs ds

-- one store of the work in hand: the last adds it to the history
store_last : (h : List Task) (j : Job) (k : ℕ) (u : Bool) → suc k ≡ j.stores → (ledger_step (working h j k u) store).state ≡ working (h ++ (j.task ∷ [])) j (suc k) false
unfolding ledger_step
store_last h j k u e = rw (lt-ltb k j.stores (omega arith), eq-eqb (suc k) j.stores e)

store_more : (h : List Task) (j : Job) (k : ℕ) (u : Bool) → suc k < j.stores → (ledger_step (working h j k u) store).state ≡ working h j (suc k) true
unfolding ledger_step
store_more h j k u l = rw (lt-ltb k j.stores (omega arith), ne_eqb (suc k) j.stores (λ e. omega arith))

run_stores : (n : ℕ) (h : List Task) (j : Job) (k : ℕ) (u : Bool) → j.stores ≡ k + suc n
    → run ledger_step (working h j k u) (replicate (suc n) store) ≡ working (h ++ (j.task ∷ [])) j j.stores false
run_stores zero h j k u e =
    store_last h j k u (omega arith) ∙ ap (λ (m : ℕ). working (h ++ (j.task ∷ [])) j m false) (omega arith)
run_stores (suc n) h j k u e =
    ap (λ (b : Ledger). run ledger_step b (replicate (suc n) store)) (store_more h j k u (omega arith)) ∙ run_stores n h j (suc k) true (omega arith)

-- a work that is opened, runs to its end and goes
abbrev calls_for : Call → ℕ → List Call
calls_for opening n = opening ∷ (replicate n store ++ (power_cut ∷ []))

pub run_work : (h : List Task) (c : Call) (j : Job) (n : ℕ) → (ledger_step (rest_at h) c).state ≡ working h j 0 false → j.stores ≡ suc n
    → run ledger_step (rest_at h) (calls_for c (suc n)) ≡ rest_at (h ++ (j.task ∷ []))
run_work h c j n e s =
    ap (λ (b : Ledger). run ledger_step b (replicate (suc n) store ++ (power_cut ∷ []))) e
    ∙ run_append (working h j 0 false) (replicate (suc n) store) (power_cut ∷ [])
    ∙ ap (λ (b : Ledger). run ledger_step b (power_cut ∷ [])) (run_stores n h j 0 false (omega arith))
    ∙ cut
  where
    cut : run ledger_step (working (h ++ (j.task ∷ [])) j j.stores false) (power_cut ∷ []) ≡ rest_at (h ++ (j.task ∷ []))
    cut = unfold ledger_step let_go in rw (le-ltb j.stores j.stores (omega arith), and-false (ltb 0 j.stores))

-- ---- what replay makes of a history of entries

abbrev pub replay_of : List Task → Replay
replay_of h = record { booted = true; off = any disables h; contents = state_of h }

-- the ledger's rules see what replay's see
pub same_view : (h : List Task) → view_of h false false ≡ view_at (replay_of h)
unfolding view_of
same_view h = refl

-- a request that is accepted
request_opens : (h : List Task) (r : Request) (t : Task) (a : List ℕ) → ruling (view_of h false false) r ≡ accepted t a
    → (ledger_step (rest_at h) (request r)).state ≡ working h (job_at (state_of h).chain t a) 0 false
unfolding ledger_step let_go ruling
request_opens h r t a e = ap (λ (R : Ruling). (ledger_request (rest_at h) R).state) e

-- any secret that is not all zero does
pub inputs_fine : (runtime manifest : List ℕ) → length runtime ≡ 48 → length manifest ≡ 48 → inputs_ok (boot_from runtime manifest) ≡ true
unfolding inputs_ok all_below
inputs_fine runtime manifest p q = rw (eq-eqb (length runtime) 48 p, eq-eqb (length manifest) 48 q)

-- an update, while on
update_opens : (h : List Task) (runtime manifest : List ℕ) → any disables h ≡ false → length runtime ≡ 48 → length manifest ≡ 48
    → (ledger_step (rest_at h) (update_boot (boot_from runtime manifest) true)).state
    ≡ working h (job_at (state_of h).chain (task_of (update runtime manifest)) []) 0 false
unfolding ledger_step let_go
update_opens h runtime manifest o p q = rw (inputs_fine runtime manifest p q, o)

-- ---- bytes

no_bytes : Bytes []
no_bytes i = omega arith

bytes_four : (w : ℕ) → Bytes (bytes4 w)
bytes_four w zero = omega arith
bytes_four w (suc zero) = omega arith
bytes_four w (suc (suc zero)) = omega arith
bytes_four w (suc (suc (suc zero))) = omega arith
bytes_four w (suc (suc (suc (suc i)))) = omega arith

sealed_bytes : (code : ℕ) (l : List ℕ) → Bytes l → Bytes (sealed code l)
sealed_bytes code l h = bytes_append (bytes4 (checksum_of code l)) l (bytes_four (checksum_of code l)) h

-- ---- the calls that make an entry's work

pub record Made (h : List Task) (e : Entry) : Type 0 where
  pub calls : List Call
  pub fine : CallsOk calls
  pub ends : run ledger_step (rest_at h) calls ≡ rest_at (h ++ (task_of e ∷ []))

work_fine : (c : Call) (n : ℕ) → CallOk c → CallsOk (calls_for c n)
work_fine c n ok = (ok, stores n)
  where
    stores : (n : ℕ) → CallsOk (replicate n store ++ (power_cut ∷ []))
    stores zero = (tt, tt)
    stores (suc n) = (tt, stores n)

-- an opened work of at least one store
made : (h : List Task) (e : Entry) (c : Call) (a : List ℕ) → CallOk c
    → (ledger_step (rest_at h) c).state ≡ working h (job_at (state_of h).chain (task_of e) a) 0 false
    → 0 < (job_at (state_of h).chain (task_of e) a).stores → Made h e
made h e c a ok opens s =
    let j = job_at (state_of h).chain (task_of e) a in
    let n = j.stores - 1 in
    record { calls = calls_for c (suc n); fine = work_fine c (suc n) ok; ends = run_work h c j n opens (omega arith) }

-- a request for a tree command's entry
order_made : (h : List Task) (e : Entry) (content fresh : List ℕ) (caller : ℕ) (c : NodeCommand) → OrderAsked e content fresh caller c → Bytes (entry_bytes e)
    → countable (replay_of h) e ≡ true → Made h e
order_made h e content fresh caller c o s k =
    let r = invoke_asked content fresh caller in
    let a = answer_of (bytes4 number.dpe_accepted) in
    let b = o.bytes s in
    made h e (request r) a (
      sealed_bytes invoke_code (bytes4 (length content) ++ content) (bytes_append (bytes4 (length content)) content (bytes_four (length content)) b.0),
      o.small,
      b.1,
    )
    (request_opens h r (task_of e) a
    (ap (λ (v : View). ruling v r) (same_view h)
    ∙ invoke_accepted (view_at (replay_of h)) refl content fresh caller c o.reads o.short (sym (o.counts (replay_of h)) ∙ k)
    ∙ ap (λ (t : Task). accepted t a) (sym o.task)))
    (o.stores (state_of h).chain)

-- ---- entry by entry

pub entry_made : (h : List Task) (e : Entry) → EntryOk e → Bytes (entry_bytes e) → countable (replay_of h) e ≡ true
    → ((runtime manifest : List ℕ) → e ≡ cold_boot runtime manifest → ⊥) → Made h e
unfolding entry_bytes number_of kind_at
entry_made h (cold_boot r m) ok s c warm = absurd (warm r m refl)
entry_made h (update r m) ok s c warm =
    made h (update r m) (update_boot (boot_from r m) true) [] tt (update_opens h r m (not_off (any disables h) c) ok.0 ok.1.0) (omega arith)
  where
    not_off : (b : Bool) → not b ≡ true → b ≡ false
    not_off true q = sym q
    not_off false q = refl
entry_made h disabling ok s c warm =
    made h disabling (request disable_asked) (answer_of []) (sealed_bytes disable_code [] no_bytes, omega arith, no_bytes)
    (request_opens h disable_asked (task_of disabling) (answer_of []) (ap (λ (v : View). ruling v disable_asked) (same_view h) ∙ disable_accepted (view_at (replay_of h)) refl))
    (omega arith)
entry_made h (stash t d n c) ok s k warm =
    let later = bytes_rest (4 ∷ number_bytes t) (d ++ (number_bytes n ++ (number_bytes c ++ []))) _ refl s in
    let digest : Bytes d = bytes_front d (number_bytes n ++ (number_bytes c ++ [])) _ refl later in
    made h (stash t d n c) (request (stash_asked t d n c)) (answer_of (bytes4 0)) (
      sealed_bytes stash_code (bytes4 t ++ (d ++ bytes4 n))
          (bytes_append (bytes4 t) (d ++ bytes4 n) (bytes_four t) (bytes_append d (bytes4 n) digest (bytes_four n))),
      ok.1.1.1.0,
      no_bytes,
    )
    (request_opens h (stash_asked t d n c) (task_of (stash t d n c)) (answer_of (bytes4 0))
    (ap (λ (v : View). ruling v (stash_asked t d n c)) (same_view h)
    ∙ stash_accepted (view_at (replay_of h)) refl t d n c ok.0 ok.1.0 ok.1.1.0 k))
    (omega arith)
entry_made h (extension r d) ok s k warm =
    let digest : Bytes d = bytes_front d [] _ refl (bytes_rest (5 ∷ number_bytes r) (d ++ []) _ refl s) in
    made h (extension r d) (request (extension_asked r d)) (answer_of [])
    (sealed_bytes extend_code (bytes4 r ++ d) (bytes_append (bytes4 r) d (bytes_four r) digest), omega arith, no_bytes)
    (request_opens h (extension_asked r d) (task_of (extension r d)) (answer_of [])
    (ap (λ (v : View). ruling v (extension_asked r d)) (same_view h) ∙ extension_accepted (view_at (replay_of h)) refl r d ok.0 ok.1.0 k))
    (omega arith)
entry_made h (derive n r t d f c) ok s k warm = order_made h (derive n r t d f c) (derive_data n r t d) f c (command.derive n r t d) (derive_asked n r t d f c ok) s k
entry_made h (extend n d c) ok s k warm = order_made h (extend n d c) (extend_data n d) [] c (command.extend n d) (extend_asked n d c ok) s k
entry_made h (rotate n f c) ok s k warm = order_made h (rotate n f c) (rotate_data n) f c (command.rotate n) (rotate_asked n f c ok) s k
entry_made h (destroy n c) ok s k warm = order_made h (destroy n c) (destroy_data n) [] c (command.destroy n) (destroy_asked n c ok) s k

-- ---- a list of entries that counts

-- the task that an entry tells has that entry
told : (e : Entry) → entry_for (task_of e) ≡ e ∷ []
told (cold_boot r m) = refl
told (update r m) = refl
told disabling = refl
told (stash t d s c) = refl
told (extension r d) = refl
told (derive h r t d f c) = refl
told (extend h d c) = refl
told (rotate h f c) = refl
told (destroy h c) = refl

-- a cold boot begins anew, whatever was before
pub counted_cold : (x : Replay) (r m : List ℕ) → counted x (cold_boot r m) ≡ replay_of (task_of (cold_boot r m) ∷ [])
unfolding state_of next_chain
counted_cold x r m = refl

-- every other entry goes on
pub counted_more : (h : List Task) (e : Entry) → off_after (any disables h) e ≡ (any disables h || disables (task_of e))
    → counted (replay_of h) e ≡ replay_of (h ++ (task_of e ∷ []))
counted_more h e o i = record { booted = true; off = (o ∙ sym (any_snoc disables h (task_of e))) i; contents = sym (state_snoc h (task_of e)) i }

calls_append : (cs ds : List Call) → CallsOk cs → CallsOk ds → CallsOk (cs ++ ds)
calls_append [] ds p q = q
calls_append (c ∷ cs) ds p q = (p.0, calls_append cs ds p.1 q)

abbrev is_cold : Entry → Bool
is_cold (cold_boot r m) = true
is_cold (update r m) = false
is_cold disabling = false
is_cold (stash t d s c) = false
is_cold (extension r d) = false
is_cold (derive h r t d f c) = false
is_cold (extend h d c) = false
is_cold (rotate h f c) = false
is_cold (destroy h c) = false

-- the lives of the entries so far, whose last is under way, and of those that follow
abbrev Lived : List Entry → Type 0
Lived es = (ls : List Life) × LivesOk ls × (es ≡ entries_over ls)

module _ (y : Replay) where
  -- behind a life with the history h
  abbrev Grows : List Entry → Type 0
  Grows es = (x : BootInputs) (calls : List Call) (h : List Task) → inputs_ok x ≡ true → CallsOk calls
      → run ledger_step (first_ledger x) calls ≡ rest_at h → EntriesOk es → Bytes (journal_bytes es) → CountsTo (replay_of h) es y → Lived (entries_for h ++ es)

  begin : (es : List Entry) → Grows es → (r m : List ℕ) → EntriesOk (cold_boot r m ∷ es) → Bytes (journal_bytes (cold_boot r m ∷ es)) → (x : Replay)
      → CountsTo (counted x (cold_boot r m)) es y → Lived (cold_boot r m ∷ es)
  begin es grow r m ok s x c =
      grow (boot_from r m) [] (task_of (cold_boot r m) ∷ []) (inputs_fine r m ok.0.0 ok.0.1.0) tt refl ok.1
      (bytes_rest (entry_bytes (cold_boot r m)) (journal_bytes es) _ refl s)
      (subst (λ (z : Replay). CountsTo z es y) (counted_cold x r m) c)

  -- the calls of one entry more
  more : (e : Entry) (es : List Entry) → Grows es → (x : BootInputs) (calls : List Call) (h : List Task) → inputs_ok x ≡ true → CallsOk calls
      → run ledger_step (first_ledger x) calls ≡ rest_at h → EntriesOk (e ∷ es) → Bytes (journal_bytes (e ∷ es)) → CountsTo (replay_of h) (e ∷ es) y
      → off_after (any disables h) e ≡ (any disables h || disables (task_of e)) → ((r m : List ℕ) → e ≡ cold_boot r m → ⊥)
      → Lived (entries_for h ++ (e ∷ es))
  more e es grow x calls h i ok q f s c o warm =
      let w = entry_made h e f.0 (bytes_front (entry_bytes e) (journal_bytes es) _ refl s) c.0 warm in
      let next = h ++ (task_of e ∷ []) in
      let r = grow x (calls ++ w.calls) next i (calls_append calls w.calls ok w.fine)
      (run_append (first_ledger x) calls w.calls ∙ ap (λ (b : Ledger). run ledger_step b w.calls) q ∙ w.ends)
      f.1
      (bytes_rest (entry_bytes e) (journal_bytes es) _ refl s)
      (subst (λ (z : Replay). CountsTo z es y) (counted_more h e o) c.1) in
      (r.0, r.1, sym (same next) ∙ r.2)
    where
      same : (n : List Task) → entries_for (h ++ (task_of e ∷ [])) ++ es ≡ entries_for h ++ (e ∷ es)
      same n = ap (λ (k : List Entry). k ++ es) (entries_snoc h (task_of e) ∙ ap (λ (k : List Entry). entries_for h ++ k) (told e)) ∙ append_assoc (entries_for h) (e ∷ []) es

  grow : (es : List Entry) → Grows es
  grow [] x calls h i ok q f s c = (
    record { boot = x; calls = calls } ∷ [],
    (record { boot = i; calls = ok }, tt),
    ap (λ (b : Ledger). entries_for b.history ++ []) (sym q),
  )
  grow (cold_boot r m ∷ es) x calls h i ok q f s c =
      let after = begin es (grow es) r m f s (replay_of h) c.1 in (
        record { boot = x; calls = calls } ∷ after.0,
        (record { boot = i; calls = ok }, after.1),
        ap (λ (k : List Entry). entries_for h ++ k) after.2 ∙ ap (λ (b : Ledger). entries_for b.history ++ entries_over after.0) (sym q),
      )
  grow (update r m ∷ es) x calls h i ok q f s c = more (update r m) es (grow es) x calls h i ok q f s c (sym (or-false (any disables h))) (λ a b z. false≢true (ap is_cold z))
  grow (disabling ∷ es) x calls h i ok q f s c = more disabling es (grow es) x calls h i ok q f s c (sym (or-true (any disables h))) (λ a b z. false≢true (ap is_cold z))
  grow (stash t d n k ∷ es) x calls h i ok q f s c = more (stash t d n k) es (grow es) x calls h i ok q f s c (sym (or-false (any disables h))) (λ a b z. false≢true (ap is_cold z))
  grow (extension n d ∷ es) x calls h i ok q f s c = more (extension n d) es (grow es) x calls h i ok q f s c (sym (or-false (any disables h))) (λ a b z. false≢true (ap is_cold z))
  grow (derive n r t d w k ∷ es) x calls h i ok q f s c = more (derive n r t d w k) es (grow es) x calls h i ok q f s c (sym (or-false (any disables h))) (λ a b z. false≢true (ap is_cold z))
  grow (extend n d k ∷ es) x calls h i ok q f s c = more (extend n d k) es (grow es) x calls h i ok q f s c (sym (or-false (any disables h))) (λ a b z. false≢true (ap is_cold z))
  grow (rotate n w k ∷ es) x calls h i ok q f s c = more (rotate n w k) es (grow es) x calls h i ok q f s c (sym (or-false (any disables h))) (λ a b z. false≢true (ap is_cold z))
  grow (destroy n k ∷ es) x calls h i ok q f s c = more (destroy n k) es (grow es) x calls h i ok q f s c (sym (or-false (any disables h))) (λ a b z. false≢true (ap is_cold z))

  -- before the first cold boot nothing else counts
  pub lived : (es : List Entry) → EntriesOk es → Bytes (journal_bytes es) → CountsTo fresh es y → Lived es
  lived [] f s c = ([], tt, refl)
  lived (cold_boot r m ∷ es) f s c = begin es (grow es) r m f s fresh c.1
  lived (update r m ∷ es) f s c = absurd (false≢true c.0)
  lived (disabling ∷ es) f s c = absurd (false≢true c.0)
  lived (stash t d n k ∷ es) f s c = absurd (false≢true c.0)
  lived (extension n d ∷ es) f s c = absurd (false≢true c.0)
  lived (derive n r t d w k ∷ es) f s c = absurd (false≢true c.0)
  lived (extend n d k ∷ es) f s c = absurd (false≢true c.0)
  lived (rotate n w k ∷ es) f s c = absurd (false≢true c.0)
  lived (destroy n k ∷ es) f s c = absurd (false≢true c.0)
