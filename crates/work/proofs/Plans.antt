-- The stores of a work as a list: store by store it is the store table, and run by run it sets words in a row. In the middle of it the mark is 0.
-- Assumes nothing.
use mathlib.Core.Path.{◌≡◌, refl, sym, ap, ◌∙◌, subst}
use mathlib.Core.Logic.{◌⊎◌, inl, inr}
use Prim.Native.Nat.{ℕ, zero, suc, ◌+◌, ◌-◌, ◌≤◌, ◌<◌}
use native.Mathlib.Nat.{zero-add, add-zero, le_of_suc-le-suc, not-suc-le-zero}
use native.Mathlib.Decide.{dec_lt}
use native.Mathlib.Omega.{arith}
use mathlib.Core.Bool.{cond}
use mathlib.Core.List.{List, [], ◌∷◌, ◌++◌, append_assoc}
use lib.Dec.{ltb}
use borrow.Author.Tests.{lt-ltb, le-ltb}
use lib.ListN.{length, get_or, set, take, replicate, length-append, length-set, get_or-append, length-replicate, get_or-replicate}
use lib.Seq.{sets, get_or-append-add, get_or-set_same, get_or-set_other, take-append-le, take-suc}
use Rattle.layout.specs.Sizes.{mark_at}
use Rattle.layout.specs.Words.{zeros}
use Rattle.layout.proofs.Tab.{length_zeros, get_d_zeros}
use Rattle.table.specs.Table.{put, Run, one, fill, copy, copy_from, total, put_from, number_of}
use Rattle.table.proofs.ByKind.{number_row, EveryRun, PastMark, Bracketed, bracketed}
use Rattle.work.specs.Entries.{runs_of, put_of}
use Rattle.table.specs.declared.Put.{Put}
use Rattle.work.specs.declared.Work.{Work}

-- ---- stores as a list

-- the image after a list of stores
abbrev pub apply : List Put → List ℕ → List ℕ
apply [] l = l
apply (p ∷ ps) l = apply ps (set l p.address p.value)

pub apply_append : (s t : List Put) (l : List ℕ) → apply (s ++ t) l ≡ apply t (apply s l)
apply_append [] t l = refl
apply_append (p ∷ s) t l = apply_append s t (set l p.address p.value)

pub length_apply : (s : List Put) (l : List ℕ) → length (apply s l) ≡ length l
length_apply [] l = refl
length_apply (p ∷ s) l = length_apply s (set l p.address p.value) ∙ length-set l p.address p.value

-- store i of a run and those after it, n of them
unfoldable pub spread : (ℕ → Put) → ℕ → ℕ → List Put
spread f i zero = []
spread f i (suc n) = f i ∷ spread f (suc i) n

length_spread : (f : ℕ → Put) (i n : ℕ) → length (spread f i n) ≡ n
unfolding spread
length_spread f i zero = refl
length_spread f i (suc n) = ap suc (length_spread f (suc i) n)

get_d_spread : (f : ℕ → Put) (i n k : ℕ) (z : Put) → k < n → get_or (spread f i n) k z ≡ f (i + k)
unfolding spread
get_d_spread f i zero k z h = absurd (not-suc-le-zero h)
get_d_spread f i (suc n) zero z h = ap f (sym (add-zero i))
get_d_spread f i (suc n) (suc k) z h = get_d_spread f (suc i) n k z (le_of_suc-le-suc h) ∙ ap f (omega arith)

-- ---- the stores of runs

abbrev pub stores_in : List Run → List Put
stores_in [] = []
stores_in (r ∷ rs) = spread r.store 0 r.count ++ stores_in rs

pub length_stores : (rs : List Run) → length (stores_in rs) ≡ total rs
length_stores [] = refl
length_stores (r ∷ rs) =
    length-append (spread r.store 0 r.count) (stores_in rs) ∙ omega (arith, length_spread r.store 0 r.count, length_stores rs)

pub stores_put : (rs : List Run) (n k : ℕ) → put_from n rs (n + k) ≡ get_or (stores_in rs) k (put 0 0)
stores_put [] n k = refl
stores_put (r ∷ rs) n k = go (dec_lt k r.count) (stores_put rs (n + r.count) (k - r.count))
  where
    first : List Put
    first = spread r.store 0 r.count

    many : length first ≡ r.count
    many = length_spread r.store 0 r.count

    go : Dec (k < r.count) → put_from (n + r.count) rs (n + r.count + (k - r.count)) ≡ get_or (stores_in rs) (k - r.count) (put 0 0)
        → cond (ltb (n + k) (n + r.count)) (r.store (n + k - n)) (put_from (n + r.count) rs (n + k)) ≡ get_or (first ++ stores_in rs) k (put 0 0)
    go (yes h) ih =
        rw (lt-ltb (n + k) (n + r.count) (omega arith))
        (ap r.store (omega arith)
        ∙ sym (get_d_spread r.store 0 r.count k (put 0 0) h)
        ∙ sym (get_or-append first (stores_in rs) (put 0 0) k (omega (arith, many))))
    go (no h) ih =
        rw (le-ltb (n + k) (n + r.count) (omega arith))
        (ap (put_from (n + r.count) rs) (omega arith)
        ∙ ih
        ∙ sym (get_or-append-add first (stores_in rs) (k - r.count) (put 0 0))
        ∙ ap (λ (j : ℕ). get_or (first ++ stores_in rs) j (put 0 0)) (omega (arith, many)))

-- ---- the stores of a work

unfoldable pub plan : Work → List Put
plan w = stores_in (runs_of w)

pub length_plan : (w : Work) → length (plan w) ≡ number_of w.kind
unfolding plan runs_of
length_plan w = length_stores (runs_of w) ∙ number_row w.kind w.register w.journey w.node w.secret

pub put_plan : (w : Work) → put_of w ≡ get_or (plan w) w.position (put 0 0)
unfolding plan put_of
put_plan w = ap (put_from 0 (runs_of w)) (sym (zero-add w.position)) ∙ stores_put (runs_of w) 0 w.position

-- ---- a run sets words in a row

spread_sets : (f : ℕ → Put) (a : ℕ) (vs : List ℕ) (i : ℕ) (l : List ℕ) → ((j : ℕ) → j < length vs → f (i + j) ≡ put (a + j) (get_or vs j 0))
    → apply (spread f i (length vs)) l ≡ sets l a vs
unfolding spread
spread_sets f a [] i l h = refl
spread_sets f a (v ∷ vs) i l h =
    ap (λ (p : Put). apply (spread f (suc i) (length vs)) (set l p.address p.value)) first
    ∙ spread_sets f (suc a) vs (suc i) (set l a v) rest
  where
    first : f i ≡ put a v
    first = ap f (sym (add-zero i)) ∙ h 0 (omega arith) ∙ ap (λ (n : ℕ). put n v) (add-zero a)

    rest : (j : ℕ) → j < length vs → f (suc i + j) ≡ put (suc a + j) (get_or vs j 0)
    rest j b = ap f (omega arith) ∙ h (suc j) (omega arith) ∙ ap (λ (n : ℕ). put n (get_or vs j 0)) (omega arith)

-- a run whose stores are the words vs, from word a on
pub run_sets : (r : Run) (rs : List Run) (a : ℕ) (vs l : List ℕ) → length vs ≡ r.count
    → ((j : ℕ) → j < r.count → r.store j ≡ put (a + j) (get_or vs j 0)) → apply (stores_in (r ∷ rs)) l ≡ apply (stores_in rs) (sets l a vs)
run_sets r rs a vs l e h =
    apply_append (spread r.store 0 r.count) (stores_in rs) l
    ∙ ap (apply (stores_in rs))
    (ap (λ (n : ℕ). apply (spread r.store 0 n) l) (sym e)
    ∙ spread_sets r.store a vs 0 l (λ j b. ap r.store (zero-add j) ∙ h j (omega arith)))

module _ (rs : List Run) (l : List ℕ) where
  pub run_one : (a v : ℕ) → apply (stores_in (one a v ∷ rs)) l ≡ apply (stores_in rs) (set l a v)
  unfolding spread
  run_one a v = refl

  pub run_zeros : (a n : ℕ) → apply (stores_in (fill a n 0 ∷ rs)) l ≡ apply (stores_in rs) (sets l a (zeros n))
  run_zeros a n = run_sets (fill a n 0) rs a (zeros n) l (length_zeros n) (λ j h. ap (put (a + j)) (sym (get_d_zeros n j h)))

  pub run_fill : (a n v : ℕ) → apply (stores_in (fill a n v ∷ rs)) l ≡ apply (stores_in rs) (sets l a (replicate n v))
  run_fill a n v = run_sets (fill a n v) rs a (replicate n v) l (length-replicate n v) (λ j h. ap (put (a + j)) (sym (get_or-replicate n j v 0 h)))

  pub run_copy : (a n : ℕ) (vs : List ℕ) → length vs ≡ n → apply (stores_in (copy a n vs ∷ rs)) l ≡ apply (stores_in rs) (sets l a vs)
  run_copy a n vs e = run_sets (copy a n vs) rs a vs l e (λ j h. refl)

  -- words of a longer list, from its word o on
  pub run_part : (a n : ℕ) (ws : List ℕ) (o : ℕ) (vs : List ℕ) → length vs ≡ n → ((j : ℕ) → j < n → get_or ws (o + j) 0 ≡ get_or vs j 0)
      → apply (stores_in (copy_from a n ws o ∷ rs)) l ≡ apply (stores_in rs) (sets l a vs)
  run_part a n ws o vs e h = run_sets (copy_from a n ws o) rs a vs l e (λ j b. ap (put (a + j)) (h j b))

-- one store more
pub one_more : (ps : List Put) (k : ℕ) (base : List ℕ) → k < length ps
    → set (apply (take k ps) base) (get_or ps k (put 0 0)).address (get_or ps k (put 0 0)).value ≡ apply (take (suc k) ps) base
one_more ps k base h =
    sym (apply_append (take k ps) (get_or ps k (put 0 0) ∷ []) base) ∙ ap (λ (z : List Put). apply z base) (sym (take-suc ps k (put 0 0) h))

-- ---- what holds of every store of every run

abbrev pub Every : (Put → Type 0) → List Put → Type 0
Every P [] = Unit {0}
Every P (p ∷ ps) = P p × Every P ps

module _ (P : Put → Type 0) where
  every_append : (s t : List Put) → Every P s → Every P t → Every P (s ++ t)
  every_append [] t p q = q
  every_append (x ∷ s) t p q = (p.0, every_append s t p.1 q)

  every_spread : (f : ℕ → Put) (i n : ℕ) → ((j : ℕ) → P (f j)) → Every P (spread f i n)
  unfolding spread
  every_spread f i zero h = tt
  every_spread f i (suc n) h = (h i, every_spread f (suc i) n h)

  pub every_stores : (rs : List Run) → EveryRun P rs → Every P (stores_in rs)
  every_stores [] h = tt
  every_stores (r ∷ rs) h =
      every_append (spread r.store 0 r.count) (stores_in rs) (every_spread r.store 0 r.count h.0) (every_stores rs h.1)

  every_take : (k : ℕ) (ps : List Put) → Every P ps → Every P (take k ps)
  every_take zero ps h = tt
  every_take (suc k) [] h = tt
  every_take (suc k) (p ∷ ps) h = (h.0, every_take k ps h.1)

  pub every_at : (ps : List Put) → Every P ps → (k : ℕ) → k < length ps → P (get_or ps k (put 0 0))
  every_at [] e k h = absurd (not-suc-le-zero h)
  every_at (p ∷ ps) e zero h = e.0
  every_at (p ∷ ps) e (suc k) h = every_at ps e.1 k (le_of_suc-le-suc h)

-- ---- after the first store and before the last the mark is 0

past_apply : (ps : List Put) (l : List ℕ) → Every PastMark ps → get_or (apply ps l) mark_at 0 ≡ get_or l mark_at 0
past_apply [] l h = refl
past_apply (p ∷ ps) l h =
    past_apply ps (set l p.address p.value) h.1
    ∙ get_or-set_other l p.address mark_at p.value 0 (λ (q : mark_at ≡ p.address). omega (arith, h.0))

stores_append : (rs ts : List Run) → stores_in (rs ++ ts) ≡ stores_in rs ++ stores_in ts
stores_append [] ts = refl
stores_append (r ∷ rs) ts =
    ap (λ (z : List Put). spread r.store 0 r.count ++ z) (stores_append rs ts)
    ∙ sym (append_assoc (spread r.store 0 r.count) (stores_in rs) (stores_in ts))

-- the runs between the two marks
mid : (rs : List Run) → EveryRun PastMark rs → (l : List ℕ) (j : ℕ) → mark_at < length l → j < length (stores_in (rs ++ (one mark_at 1 ∷ [])))
    → get_or (apply (take j (stores_in (rs ++ (one mark_at 1 ∷ [])))) (set l mark_at 0)) mark_at 0 ≡ 0
mid rs p l j b h =
    rw (stores_append rs (one mark_at 1 ∷ []), take-append-le j (stores_in rs) (stores_in (one mark_at 1 ∷ [])) before_last)
    (past_apply (take j (stores_in rs)) (set l mark_at 0) (every_take PastMark j (stores_in rs) (every_stores PastMark rs p)) ∙ get_or-set_same l mark_at 0 0 b)
  where
    all : length (stores_in (rs ++ (one mark_at 1 ∷ []))) ≡ length (stores_in rs) + 1
    all =
        ap length (stores_append rs (one mark_at 1 ∷ []))
        ∙ length-append (stores_in rs) (stores_in (one mark_at 1 ∷ []))
        ∙ ap (λ (n : ℕ). length (stores_in rs) + n) (length_stores (one mark_at 1 ∷ []))

    before_last : j ≤ length (stores_in rs)
    before_last = omega (arith, all)

marked : (rs : List Run) → EveryRun PastMark rs → (l : List ℕ) (k : ℕ) → mark_at < length l → 0 < k
    → k < length (stores_in (one mark_at 0 ∷ (rs ++ (one mark_at 1 ∷ []))))
    → get_or (apply (take k (stores_in (one mark_at 0 ∷ (rs ++ (one mark_at 1 ∷ []))))) l) mark_at 0 ≡ 0
unfolding spread
marked rs p l zero b u h = absurd (not-suc-le-zero u)
marked rs p l (suc k) b u h = mid rs p l k b (le_of_suc-le-suc h)

-- so of any runs that are none, or between two marks
mid_runs : (rs : List Run) → (rs ≡ []) ⊎ Bracketed rs → (l : List ℕ) (i : ℕ) → mark_at < length l → 0 < i → i < length (stores_in rs)
    → get_or (apply (take i (stores_in rs)) l) mark_at 0 ≡ 0
mid_runs rs (inl e) l i b u h = absurd (not-suc-le-zero (subst (λ (x : List Run). i < length (stores_in x)) e h))
mid_runs rs (inr k) l i b u h =
    subst (λ (x : List Run). i < length (stores_in x) → get_or (apply (take i (stores_in x)) l) mark_at 0 ≡ 0) (sym k.same)
    (marked k.inner k.past l i b u) h

pub mark_mid : (w : Work) (k : ℕ) (l : List ℕ) → 0 < k → k < length (plan w) → mark_at < length l → get_or (apply (take k (plan w)) l) mark_at 0 ≡ 0
unfolding plan runs_of
mark_mid w k l u h b = mid_runs (runs_of w) (bracketed w.kind w.register w.journey w.node w.secret) l k b u h
