-- `sha384::digest::first_six` meets its contract: the words' bytes one after another, up to the sixth. Assumes nothing.
use Rattle.std.proofs.Common.{rules, ◌≡◌, ◌∙◌, ◌<◌, ℕ, [], get_or, ap, take}
use Rattle.sha384.specs.Sha384.{bytes_of}
use Rattle.sha384.proofs.Bytes.{be_bytes, six_of_eight}
use Rattle.sha384.proofs.digest.first_six.Goals as goal

pub returns : goal.returns
returns c =
    let ys = c.map-bytes.result in
    let each : (i : ℕ) → i < 8 → get_or ys i [] ≡ bytes_of 8 (get_or c.args.h i 0) = λ i h. let called = (c.map-bytes.ensures.items.at i 0 [] h).2 in search (rules, called.met) ∙ be_bytes (get_or c.args.h i 0) in
    c.copy_from_slice.ensures.after ∙ ap (take 48) c.as_flattened.ensures.value ∙ six_of_eight c.args.h ys c.map-bytes.ensures.items.long each
