-- `running::Running::keep` meets its contract: no block is full, so the slice stands behind the bytes that wait. Assumes nothing.
use Rattle.std.proofs.Common.{◌≡◌, length, arith, rules}
use Rattle.running.proofs.Filling.{kept_buffer, kept_state}
use Rattle.running.proofs.Running.keep.Goals as goal

pub returns : goal.returns
returns c =
    let st = c.args.self.now in
    let m = c.args.slice.now in
    let long : length c.args.self.now.buffer ≡ 128 = search rules in
    kept_state st m _ long c.requires.0
    (kept_buffer st.buffer m _ _ st.waiting _ long c.requires.0 (omega arith) c.copy_from_slice.ensures.after c.copy_from_slice-2.ensures.after)
