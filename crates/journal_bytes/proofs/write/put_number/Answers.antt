-- The groups put so far, before those of the number that is left.
use native.Mathlib.Omega.{arith}
use mathlib.Core.Path.{refl}
use Prim.Native.Nat.{◌+◌, ◌%◌}
use lib.ListN.{length-set}
use Rattle.journal_bytes.proofs.Writing.{filling_start, filling_more, filling_end}
use Rattle.journal_bytes.proofs.write.put_number.Goals as goal

pub loop-v-init : goal.loop-v-init
loop-v-init c = filling_start c.args.out.now c.args.at c.args.x (omega arith)

pub bounds-out-i : goal.bounds-out-i
bounds-out-i c = omega (arith, c.loop-v.invariant.room, c.loop-v.invariant.long)

pub overflow_add-i : goal.overflow_add-i
overflow_add-i c = omega (arith, c.loop-v.invariant.room, c.loop-v.invariant.long)

pub loop-v-preserved : goal.loop-v-preserved
loop-v-preserved c = let l = c.loop-v in
    filling_more c.args.out.now c.args.at c.args.x l.out l.v l.i (128 + l.v % 128) (omega (arith, l.invariant.room, l.invariant.long)) (omega arith) refl l.invariant

pub bounds-out-i-2 : goal.bounds-out-i-2
bounds-out-i-2 c = omega (arith, c.loop-v.invariant.room, c.loop-v.invariant.long)

pub overflow_add-result : goal.overflow_add-result
overflow_add-result c = omega (arith, c.loop-v.invariant.room, c.loop-v.invariant.long)

pub shape_of-out : goal.shape_of-out
shape_of-out c = simp length-set c.loop-v.invariant.long

pub returns : goal.returns
returns c = let l = c.loop-v in
    record { out_after = filling_end c.args.out.now c.args.at c.args.x l.out l.v l.i (omega (arith, l.invariant.room, l.invariant.long)) (omega arith) l.invariant; upper_bound = omega (arith, l.invariant.room) }
