-- Lists made by a function of the index. Assumes nothing.
use Prim.Native.Nat.{ℕ, zero, suc, ◌+◌, ◌-◌, ◌<◌, ◌≤◌}
use mathlib.Core.Path.{◌≡◌, refl, sym, ap, subst, ◌∙◌}
use denote.Param.Members.{Mut, Called}
use Rattle.std.specs.Array.{IsFromFnResult, IsFromFnResultFrom}
use mathlib.Core.List.{List, [], ◌∷◌, ◌++◌}
use native.Mathlib.Numerals.{add-one}
use native.Mathlib.Omega.{arith}
use native.Mathlib.Decide.{dec_lt}
use lib.ListN.{length, get_or, take, drop, set, replicate, length-append, length-replicate, replicate-append-replicate, get_or-replicate, get_or-append, get_or-eq_default}
use lib.Seq.{take-suc-set, take_all, drop_at, ext_get_or, get_or_at}
use Rattle.layout.specs.Words.{tab, zeros}

pub length_zeros : (n : ℕ) → length (zeros n) ≡ n
unfolding zeros
length_zeros n = length-replicate n 0

pub get_d_zeros : (n i : ℕ) → i < n → get_or (zeros n) i 0 ≡ 0
unfolding zeros
get_d_zeros n i h = get_or-replicate n i 0 0 h

-- the back of a run of zeros
pub drop_zeros : (k n : ℕ) → k ≤ n → drop k (replicate {A = ℕ} n 0) ≡ replicate (n - k) 0
drop_zeros k n h =
    let e : k + (n - k) ≡ n = omega arith in
    ap (λ (i : ℕ). drop k (replicate {A = ℕ} i 0)) (sym e)
    ∙ ap (drop k) (sym (replicate-append-replicate k (n - k) 0))
    ∙ drop_at (replicate {A = ℕ} k 0) (replicate (n - k) 0) k (length-replicate k 0)

-- past the end of a list
pub get_d_past : (l : List ℕ) (i : ℕ) → length l ≤ i → 0 ≡ get_or l i 0
get_d_past l i h = sym (get_or-eq_default l 0 {n = i} h)

module _ (f : ℕ → ℕ) where
  pub length_tab : (n : ℕ) → length (tab n f) ≡ n
  unfolding tab
  length_tab zero = refl
  length_tab (suc n) = length-append (tab n f) (f n ∷ []) ∙ omega (arith, length_tab n)

  pub get_d_tab : (n i : ℕ) → i < n → get_or (tab n f) i 0 ≡ f i
  unfolding tab
  get_d_tab zero i h = absurd (omega arith)
  get_d_tab (suc n) i h = elim (dec_lt i n) [
    | yes l ↦ get_or-append (tab n f) (f n ∷ []) 0 i (omega (arith, length_tab n)) ∙ get_d_tab n i l
    | no g ↦ (let e : i ≡ n = omega arith in ap (λ (k : ℕ). get_or (tab n f ++ (f n ∷ [])) k 0) e ∙ get_or_at (tab n f) (f n) [] 0 n (length_tab n) ∙ ap f (sym e))
  ]

  -- a loop that fills a list from the front: its start, one element more, and its end
  pub tab_none : [] ≡ tab 0 f
  unfolding tab
  tab_none = refl

  pub tab_more : (l : List ℕ) (i v : ℕ) → i < length l → v ≡ f i → take i l ≡ tab i f → take (i + 1) (set l i v) ≡ tab (i + 1) f
  unfolding tab
  tab_more l i v h e p = rw (add-one, take-suc-set l i v h, p, e)

  pub tab_full : (l : List ℕ) (n : ℕ) → length l ≡ n → take n l ≡ tab n f → l ≡ tab n f
  tab_full l n h p = sym (take_all n l (omega arith)) ∙ p

  -- a list is the table of its elements
  pub tab_is : (l : List ℕ) (n : ℕ) → length l ≡ n → ((i : ℕ) → i < n → f i ≡ get_or l i 0) → tab n f ≡ l
  tab_is l n h e =
      ext_get_or 0 (tab n f) l (length_tab n ∙ sym h)
      (λ i b. let c : i < n = omega (arith, length_tab n) in get_d_tab n i c ∙ e i c)

-- an array made by calls at each index in turn: each call gives h of its index, and changes nothing
module _ {F : Type 0} (g : Mut F (ℕ × Unit {0}) ℕ) (f : F) (h : ℕ → ℕ) (ys : List ℕ) (n : ℕ) (pure : (i y : ℕ) (q : F) → i < n → Called g f (i, tt) y q → (q ≡ f) × (y ≡ h i)) where
  calls_give : (m i k : ℕ) → i + m ≡ n → i ≤ k → k < n → (p : F) → p ≡ f → IsFromFnResultFrom g p ys i m → h k ≡ get_or ys k 0
  calls_give zero i k e a b p s r = absurd (omega arith)
  calls_give (suc m) i k e a b p s (q, y, at_i, called, rest) =
      let lt : i < n = omega arith in
      let one : (q ≡ f) × (y ≡ h i) = pure i y q lt (subst (λ (x : F). Called g x (i, tt) y q) s called) in
      elim (dec_lt i k) [
        | yes l ↦ calls_give m (i + 1) k (omega arith) (omega arith) b q one.0 rest
        | no l ↦ let same : k ≡ i = omega arith in rw same (sym one.1 ∙ sym (at_i.1 0))
      ]

  pub from_fn_tab : IsFromFnResult g f ys n → ys ≡ tab n h
  from_fn_tab r = sym (tab_is h ys n r.long (λ k l. calls_give n 0 k (omega arith) (omega arith) l f refl r.each))

-- tables of functions that are the same at each index
pub tab_same : (n : ℕ) (f g : ℕ → ℕ) → ((k : ℕ) → f k ≡ g k) → tab n f ≡ tab n g
unfolding tab
tab_same zero f g e = refl
tab_same (suc n) f g e = rw (tab_same n f g e, e n)
