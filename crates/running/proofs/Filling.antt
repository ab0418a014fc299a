-- What the two ways of a feed make of the buffer and of the hash value. Assumes nothing.
use mathlib.Core.Path.{◌≡◌, sym, ap, ap₂, ◌∙◌}
use mathlib.Core.List.{List, [], ◌++◌, append-nil, append_assoc}
use Prim.Native.Nat.{ℕ, suc, ◌+◌, ◌-◌, ◌*◌, ◌/◌, ◌%◌, ◌≤◌, ◌<◌}
use native.Mathlib.Omega.{arith}
use lib.ListN.{length, take, drop, replicate, length-append, length-drop, length-replicate}
use lib.ListN.{drop_of_length-le, take-append-drop}
use lib.Seq.{take_at, drop_at, drop-drop, drop-append-add, length-take-le}
use borrow.Rule.Slice.PartMut.{put_mid}
use Rattle.layout.proofs.Tab.{drop_zeros}
use Rattle.sha_block.specs.Blocks.{hashed, hash_words, hash_value, absorbed}
use Rattle.sha_block.proofs.Hashed.{hashed_append, absorbed_words, absorbed_hashed}
use Rattle.sha384.specs.Constants.{constants}
use Rattle.running.specs.Running.{filled, waiting_then, fed_of}
use Rattle.running.specs.declared.Running.{Running}

-- bytes copied to the front of zeros
pub filled_front : (l o : List ℕ) (k : ℕ) → length l ≡ k → k ≤ 128 → o ≡ l → put_mid 0 k (replicate 128 0) o ≡ filled l
unfolding filled
filled_front l o k n h e =
    ap₂ (λ (a b : List ℕ). a ++ b) e (drop_zeros k 128 h) ∙ ap (λ (x : ℕ). l ++ replicate (128 - x) 0) (sym n)

-- a slice that leaves less than a block waiting
pub kept_buffer : (old m o p : List ℕ) (w k : ℕ) → length old ≡ 128 → w + length m < 128 → k ≡ length m → o ≡ take w old → p ≡ m
    → put_mid w k (put_mid 0 w (replicate 128 0) o) p ≡ filled (take w old ++ m)
unfolding filled
kept_buffer old m o p w k hl hw hk eo ep =
    let l = take w old in
    let z : List ℕ = replicate (128 - w) 0 in
    let n : length l ≡ w = length-take-le w old (omega arith) in
    let front : put_mid 0 w (replicate 128 0) o ≡ l ++ z = ap₂ (λ (a b : List ℕ). a ++ b) eo (drop_zeros w 128 (omega arith)) in
    let rest : drop k (drop w (l ++ z)) ≡ replicate (128 - length (l ++ m)) 0 =
    ap₂ drop hk (drop_at l z w n) ∙ drop_zeros (length m) (128 - w) (omega arith)
    ∙ ap (λ (x : ℕ). replicate x 0) (omega (arith, length-append l m)) in
    ap₂ (put_mid w k) front ep ∙ ap₂ (λ (a b : List ℕ). a ++ (m ++ b)) (take_at l z w n) rest
    ∙ sym (append_assoc l m (replicate (128 - length (l ++ m)) 0))

pub kept_state : (st : Running) (m buffer : List ℕ) → length st.buffer ≡ 128 → st.waiting + length m < 128 → buffer ≡ filled (waiting_then st m)
    → record { total = st.total + length m; waiting = st.waiting + length m; buffer = buffer; hash = st.hash } ≡ fed_of st m
unfolding fed_of
kept_state st m buffer hl hw e =
    let j = waiting_then st m in
    let n : length j ≡ st.waiting + length m =
    length-append (take st.waiting st.buffer) m ∙ omega (arith, length-take-le st.waiting st.buffer (omega arith)) in
    let none : 0 ≡ length j / 128 = omega arith in
    let left : st.waiting + length m ≡ length j % 128 = omega arith in
    λ i. record {
      total = st.total + length m;
      waiting = left i;
      buffer = (e ∙ ap (λ (x : ℕ). filled (drop (x * 128) j)) none) i;
      hash = absorbed constants st.hash j (none i);
    }

-- the block that waits, filled up
pub full_block : (old t o : List ℕ) (w k : ℕ) → length old ≡ 128 → w + k ≡ 128 → o ≡ t → put_mid w k old o ≡ take w old ++ t
full_block old t o w k hl hw e =
    let none : drop k (drop w old) ≡ [] = drop_of_length-le (drop w old) {i = k} (omega (arith, length-drop w old)) in
    ap (λ (l : List ℕ). take w old ++ l) (ap₂ (λ (a b : List ℕ). a ++ b) e none ∙ append-nil t)

pub full_length : (old m b : List ℕ) (w : ℕ) → length old ≡ 128 → w < 128 → 128 ≤ w + length m → b ≡ take w old ++ take (128 - w) m → length b ≡ 128
full_length old m b w hl hw hm e =
    ap length e ∙ length-append (take w old) (take (128 - w) m)
    ∙ omega (arith, length-take-le w old (omega arith), length-take-le (128 - w) m (omega arith))

-- the block filled up and then whole blocks of t, over lent words
block_then : (k h b t : List ℕ) (n : ℕ) → length b ≡ 128 → absorbed k (absorbed k h b 1) t n ≡ absorbed k h (b ++ t) (1 + n)
block_then k h b t n l =
    let more : 1 + n ≡ suc n = omega arith in
    ap (λ (x : List ℕ). absorbed k x t n) (absorbed_hashed k h b 0) ∙ absorbed_words k (hashed k (hash_value h) b 1) t n
    ∙ ap hash_words (sym (hashed_append k (hash_value h) b t 1 n (omega arith)) ∙ ap (hashed k (hash_value h) (b ++ t)) more)
    ∙ sym (ap (absorbed k h (b ++ t)) more ∙ absorbed_hashed k h (b ++ t) n)

-- a slice that fills the block that waits
pub absorbed_state : (st : Running) (m : List ℕ) {block buffer first hash t : List ℕ}
    → length st.buffer ≡ 128 → st.waiting < 128 → 128 ≤ st.waiting + length m
    → block ≡ take st.waiting st.buffer ++ take (128 - st.waiting) m
    → first ≡ absorbed constants st.hash block (length block / 128)
    → hash ≡ absorbed constants first t (length t / 128)
    → t ≡ drop (128 - st.waiting) m
    → buffer ≡ filled (drop (length m - (length m - (128 - st.waiting)) % 128) m)
    → record { total = st.total + length m; waiting = (length m - (128 - st.waiting)) % 128; buffer = buffer; hash = hash } ≡ fed_of st m
unfolding fed_of
absorbed_state st m {block} {buffer} {first} {hash} {t} hl hw hm eb ef eh et er =
    let w = st.waiting in
    let fill = 128 - w in
    let front = take w st.buffer in
    let j = waiting_then st m in
    let lf : length front ≡ w = length-take-le w st.buffer (omega arith) in
    let lt : length t ≡ length m - fill = ap length et ∙ length-drop fill m in
    let lj : length j ≡ w + length m = length-append front m ∙ ap (λ (x : ℕ). x + length m) lf in
    let lb : length block ≡ 128 = ap length eb ∙ length-append front (take fill m) ∙ omega (arith, length-take-le fill m (omega arith)) in
    let split : block ++ t ≡ j =
    ap₂ (λ (b l : List ℕ). b ++ l) eb et ∙ append_assoc front (take fill m) (drop fill m) ∙ ap (λ (l : List ℕ). front ++ l) (take-append-drop fill m) in
    let one : length block / 128 ≡ 1 = omega arith in
    let count : 1 + length t / 128 ≡ length j / 128 = omega arith in
    let start : first ≡ absorbed constants st.hash block 1 = ef ∙ ap (absorbed constants st.hash block) one in
    let all : hash ≡ absorbed constants st.hash j (length j / 128) =
    eh ∙ ap (λ (x : List ℕ). absorbed constants x t (length t / 128)) start
    ∙ block_then constants st.hash block t (length t / 128) lb
    ∙ ap₂ (absorbed constants st.hash) split count in
    let left : (length m - fill) % 128 ≡ length j % 128 = omega arith in
    let at : length block + length t / 128 * 128 ≡ length j / 128 * 128 = omega arith in
    let from : fill + length t / 128 * 128 ≡ length m - (length m - fill) % 128 = omega arith in
    let rest : drop (length m - (length m - fill) % 128) m ≡ drop (length j / 128 * 128) j =
    ap (λ (x : ℕ). drop x m) (sym from) ∙ sym (ap (drop (length t / 128 * 128)) et ∙ drop-drop (length t / 128 * 128) fill m)
    ∙ sym (drop-append-add block t (length t / 128 * 128)) ∙ ap₂ (λ (x : ℕ) (l : List ℕ). drop x l) at split in
    λ i. record {
      total = st.total + length m;
      waiting = left i;
      buffer = (er ∙ ap filled rest) i;
      hash = all i;
    }
