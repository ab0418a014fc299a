-- Eight bytes, the highest first.
use Rattle.std.proofs.Common.{◌∙◌, arith}
use Rattle.sha384.specs.Sha384.{bytes_of}
use Rattle.sha384.proofs.Bytes.{copied, be_bytes}
use Rattle.sha384.proofs.padding.put_word.Goals as goal

pub returns : goal.returns
returns c =
    copied _ c.args.at c.args.out.now (bytes_of 8 c.args.x) _ (omega arith) (omega (arith, c.requires))
    (c.copy_from_slice.ensures.after ∙ c.to_be_bytes.ensures ∙ be_bytes c.args.x)
