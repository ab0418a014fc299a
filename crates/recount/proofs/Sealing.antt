-- A request's fields, put one after another into an array of zeros. Assumes nothing.
use mathlib.Core.Path.{◌≡◌, ap, ap₂, ◌∙◌}
use Prim.Native.Nat.{ℕ, ◌+◌, ◌-◌, ◌≤◌}
use native.Mathlib.Omega.{arith}
use mathlib.Core.List.{List, [], ◌++◌, append-nil}
use lib.ListN.{length, take, drop, replicate, length-append, length-drop, drop_of_length-le}
use lib.Seq.{take_all, take_at, drop-drop}
use borrow.Rule.Slice.PartMut.{mid_of, put_mid}
use Rattle.layout.specs.Words.{bytes4}
use Rattle.replaying.specs.Asked.{sealed}

-- all that lies behind an index
pub behind : (out : List ℕ) (at : ℕ) → take (length out - at) (drop at out) ≡ drop at out
behind out at = take_all (length out - at) (drop at out) (omega (arith, length-drop at out))

-- a list with s at an index
abbrev put_at : List ℕ → ℕ → List ℕ → List ℕ
put_at out at s = take at out ++ (s ++ drop (at + length s) out)

-- s copied over the part from an index on
pub put_part : (out s p : List ℕ) (at : ℕ) → at + length s ≤ length out → p ≡ take (length s) s ++ drop (length s) (mid_of at (length out - at) out)
    → put_mid at (length out - at) out p ≡ put_at out at s
put_part out s p at h e =
    ap₂ (λ (x y : List ℕ). take at out ++ (x ++ y))
    (e ∙ ap₂ (λ (x y : List ℕ). x ++ drop (length s) y) (take_all (length s) s (omega arith)) (behind out at))
    after
    ∙ ap (λ (x : List ℕ). take at out ++ x) (append-nil (s ++ drop (length s) (drop at out)))
    ∙ ap (λ (x : List ℕ). take at out ++ (s ++ x)) (drop-drop (length s) at out)
  where
    after : drop (length out - at) (drop at out) ≡ []
    after = drop_of_length-le (drop at out) {i = length out - at} (omega (arith, length-drop at out))

-- number and digest, and the checksum in front
pub extension_built : (code register : ℕ) (digest v o p r : List ℕ) → length digest ≡ 48 → v ≡ bytes4 register
    → o ≡ put_at (replicate 56 0) 4 v → p ≡ put_at o 8 digest → r ≡ sealed code (drop 4 p) → r ≡ sealed code (bytes4 register ++ digest)
extension_built code register digest v o p r l ev eo ep er =
    er
    ∙ ap (λ (x : List ℕ). sealed code (drop 4 x)) (ep ∙ ap (λ (x : List ℕ). put_at x 8 digest) (eo ∙ ap (put_at (replicate 56 0) 4) ev))
    ∙ ap (λ (n : ℕ). sealed code (bytes4 register ++ (digest ++ drop (8 + n) (put_at (replicate 56 0) 4 (bytes4 register))))) l
    ∙ ap (λ (x : List ℕ). sealed code (bytes4 register ++ x)) (append-nil digest)

-- and the svn behind them
pub stash_built : (code type svn : ℕ) (digest v o p w q r : List ℕ) → length digest ≡ 48 → v ≡ bytes4 type
    → o ≡ put_at (replicate 60 0) 4 v → p ≡ put_at o 8 digest → w ≡ bytes4 svn → q ≡ put_at p 56 w → r ≡ sealed code (drop 4 q)
    → r ≡ sealed code (bytes4 type ++ (digest ++ bytes4 svn))
stash_built code type svn digest v o p w q r l ev eo ep ew eq er =
    er
    ∙ ap (λ (x : List ℕ). sealed code (drop 4 x)) (eq ∙ ap₂ (λ (x y : List ℕ). put_at x 56 y) both ew)
    ∙ ap₂ (λ (x y : List ℕ). sealed code (bytes4 type ++ (x ++ (bytes4 svn ++ y)))) (take_at digest (replicate 4 0) 48 l)
    (drop_of_length-le (digest ++ replicate 4 0) {i = 52} (omega (arith, length-append digest (replicate 4 0))))
  where
    both : p ≡ replicate 4 0 ++ (bytes4 type ++ (digest ++ replicate 4 0))
    both =
        ep
        ∙ ap (λ (x : List ℕ). put_at x 8 digest) (eo ∙ ap (put_at (replicate 60 0) 4) ev)
        ∙ ap (λ (n : ℕ). replicate 4 0 ++ (bytes4 type ++ (digest ++ drop (8 + n) (put_at (replicate 60 0) 4 (bytes4 type))))) l

-- size and data, and the checksum of what counts in front
pub framed_built : (code : ℕ) (content v o p q : List ℕ) → v ≡ bytes4 (length content) → o ≡ put_at (replicate 112 0) 4 v → p ≡ put_at o 8 content
    → q ≡ sealed code (drop 4 (take (8 + length content) p))
    → take (8 + length content) (q ++ drop (8 + length content) p) ≡ sealed code (bytes4 (length content) ++ content)
framed_built code content v o p q ev eo ep eq = take_at q _ (8 + length content) (ap length sealed_whole ∙ omega arith) ∙ sealed_whole
  where
    fields : List ℕ
    fields = bytes4 (length content) ++ content

    placed : p ≡ (replicate 4 0 ++ fields) ++ drop (8 + length content) o
    placed = ep ∙ ap (λ (x : List ℕ). take 8 x ++ (content ++ drop (8 + length content) o)) (eo ∙ ap (put_at (replicate 112 0) 4) ev)

    sealed_whole : q ≡ sealed code fields
    sealed_whole =
        eq
        ∙ ap (λ (x : List ℕ). sealed code (drop 4 x))
        (ap (take (8 + length content)) placed ∙ take_at (replicate 4 0 ++ fields) _ (8 + length content) (omega arith))
