-- One handle stands at the front of the array, the other behind it.
use Prim.Native.Nat.{ℕ}
use mathlib.Core.Path.{◌≡◌, ap, ap₂}
use mathlib.Core.List.{List, ◌++◌}
use lib.ListN.{length, drop, replicate}
use lib.Seq.{take_at, drop_at}
use borrow.Rule.Slice.PartMut.{put_mid}
use borrow.Author.Rules.{rules}
use Rattle.layout.specs.Words.{zeros}
use Rattle.journal_bytes.specs.Results.{handles_in}
use Rattle.journal_bytes.proofs.read.handles.Goals as goal

both : (a b : List ℕ) → length a ≡ 20 → put_mid 20 20 (a ++ replicate 28 0) b ≡ handles_in a b
unfolding zeros
both a b e =
    ap₂ (λ (x y : List ℕ). x ++ y) (take_at a (replicate 28 0) 20 e)
    (ap (λ (y : List ℕ). b ++ drop 20 y) (drop_at a (replicate 28 0) 20 e))

pub returns : goal.returns
returns c = rw (c.copy_from_slice.ensures.after, c.copy_from_slice-2.ensures.after) (both c.args.handle c.args.fresh (search rules))
