-- `running_bytes::coding::put_state` meets its contract: four parts, one behind the other, fill the buffer. Assumes nothing.
use Rattle.std.proofs.Common.{◌≡◌, ◌∙◌, ◌-◌, ◌<◌, ℕ, [], length, get_or, arith, refl, sym, rules}
use Rattle.layout.specs.Words.{bytes8}
use Rattle.running_bytes.specs.Coding.{total_in, waiting_in, buffer_in, hash_in, state_size, long_bytes}
use Rattle.sha384.proofs.Bytes.{copied}
use Rattle.running_bytes.proofs.Placing.{state_placed, le_bytes, flattened, length_long}
use Rattle.running_bytes.proofs.coding.put_state.Goals as goal

pub returns : goal.returns
returns c =
    let st = c.args.state.now in
    let ys = c.map-words.result in
    let long_buffer : length c.args.state.now.buffer ≡ hash_in - buffer_in = search rules in
    let long_hash : length c.args.state.now.hash ≡ 8 = search rules in
    let each : (i : ℕ) → i < length st.hash → get_or ys i [] ≡ bytes8 (get_or st.hash i 0) = λ i h. let called = (c.map-words.ensures.items.at i 0 [] (omega (arith, h, long_hash))).2 in search (rules, called.met) ∙ le_bytes (get_or st.hash i 0) in
    let hash : c.as_flattened.result.now ≡ long_bytes st.hash = c.as_flattened.ensures.value ∙ flattened st.hash ys (c.map-words.ensures.items.long ∙ sym long_hash) each in
    state_placed st c.args.out.now c.requires long_buffer long_hash
    (copied 8 total_in _ (bytes8 st.total) _ refl (omega arith) (c.copy_from_slice.ensures.after ∙ c.to_le_bytes.ensures ∙ le_bytes st.total))
    (copied 8 waiting_in _ (bytes8 st.waiting) _ refl (omega arith) (c.copy_from_slice-2.ensures.after ∙ c.to_le_bytes-2.ensures ∙ le_bytes st.waiting))
    (copied (hash_in - buffer_in) buffer_in _ st.buffer _ long_buffer (omega arith) c.copy_from_slice-3.ensures.after)
    (copied (state_size - hash_in) hash_in _ (long_bytes st.hash) _ (length_long st.hash ∙ omega (arith, long_hash)) (omega arith) (c.copy_from_slice-4.ensures.after ∙ hash))
