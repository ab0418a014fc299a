-- The rest is copied behind eight zero bytes; the checksum of what stands from byte 4 on goes to the front.
use native.Mathlib.Omega.{arith}
use lib.ListN.{length}
use Prim.Native.Nat.{◌+◌, ◌-◌}
use Rattle.request.proofs.Sealing.{sealed_bytes}
use Rattle.request.proofs.answer.sealed.Goals as goal

pub returns : goal.returns
returns c =
    let rest = c.args.rest.now in
    sealed_bytes rest c.copy_from_slice.new.self (length rest + 8 - 8) c.requires (omega arith) c.copy_from_slice.ensures.after _ c.put_checksum.ensures
