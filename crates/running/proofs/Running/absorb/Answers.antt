-- `running::Running::absorb` meets its contract: the block that waits is filled up and taken, then the slice's whole blocks; its rest waits. Assumes
-- nothing.
use Rattle.std.proofs.Common.{◌≡◌, ◌-◌, ◌%◌, List, ℕ, length, take, drop, ◌∙◌, arith, rules, length-drop, take_all}
use Rattle.sha384.specs.Constants.{constants}
use Rattle.running.proofs.Filling.{filled_front, full_block, absorbed_state}
use Rattle.running.proofs.Running.absorb.Goals as goal

pub returns : goal.returns
unfolding constants
returns c =
    let st = c.args.self.now in
    let m = c.args.slice.now in
    let n = length m in
    let fill = 128 - st.waiting in
    let from = n - (n - fill) % 128 in
    let bound = c.requires.waiting_bound in
    let long : length c.args.self.now.buffer ≡ 128 = search rules in
    let whole : take (n - fill) (drop fill m) ≡ drop fill m = take_all (n - fill) (drop fill m) (omega (arith, length-drop fill m)) in
    let last : take (n - from) (drop from m) ≡ drop from m = take_all (n - from) (drop from m) (omega (arith, length-drop from m)) in
    absorbed_state st m long bound.0 bound.1
    (full_block st.buffer (take fill m) _ st.waiting fill long (omega arith) c.copy_from_slice.ensures.after)
    c.absorb.ensures c.absorb-2.ensures whole
    (filled_front (drop from m) _ ((n - fill) % 128) (omega (arith, length-drop from m)) (omega arith) (c.copy_from_slice-2.ensures.after ∙ last))
