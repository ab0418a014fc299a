-- The bytes that are written lie within the response's array, and are the program's output.
use Rattle.std.proofs.Common.{sym, subst, length-take-le, OnOk}
use Rattle.std.specs.Io.KnownBytes.{Appends}
use Rattle.respond.proofs.Output.{response_within}
use Rattle.mailbox.proofs.Responses.{counting_bytes}
use Rattle.mailbox.proofs.answer.Goals as goal

pub slice_bounds-bytes-end : goal.slice_bounds-bytes-end
slice_bounds-bytes-end g c = response_within c.respond-response.result _ c.respond-response.ensures

pub slice_bounds-write_all-end : goal.slice_bounds-write_all-end
slice_bounds-write_all-end g c =
    let r = c.respond-response.result in
    sym (length-take-le r.len r.bytes (response_within r _ c.respond-response.ensures))

pub returns : goal.returns
returns g c =
    let r = c.respond-response.result in
    subst (λ xs. OnOk c.write_all.result (Appends (g.W.Write.contents c.args.out.now) (g.W.Write.contents c.write_all.new.self) xs))
    (counting_bytes r _ c.respond-response.ensures)
    c.write_all.ensures.bytes
