-- The act is the same on both sides; only an answer or an entry writes the buffer (`made`).
use Rattle.machine.specs.Call.{act_in}
use Rattle.machine.proofs.Steps.{made}
use Rattle.machine.proofs.perform.Goals as goal

pub returns-in-Request : goal.returns-in-Request
unfolding act_in
returns-in-Request c =
    let r = made c.request_call.result _ _ c.request_call.ensures c.args.buffer.now in
    rw (c.in-Request.is) record { step_made = r.0; buffer_left = r.1 }

pub returns-in-UpdateBoot : goal.returns-in-UpdateBoot
unfolding act_in
returns-in-UpdateBoot c =
    let r = made c.update_boot_call.result _ _ c.update_boot_call.ensures c.args.buffer.now in
    rw (c.in-UpdateBoot.is) record { step_made = r.0; buffer_left = r.1 }

pub returns-in-Store : goal.returns-in-Store
unfolding act_in
returns-in-Store c =
    let r = made c.store_call.result _ _ c.store_call.ensures c.args.buffer.now in
    rw (c.in-Store.is) record { step_made = r.0; buffer_left = r.1 }

pub returns-in-ColdBoot : goal.returns-in-ColdBoot
unfolding act_in
returns-in-ColdBoot c =
    let r = made c.cold_boot_call.result _ _ c.cold_boot_call.ensures c.args.buffer.now in
    rw (c.in-ColdBoot.is) record { step_made = r.0; buffer_left = r.1 }

pub returns-in-Answer : goal.returns-in-Answer
unfolding act_in
returns-in-Answer c =
    let image = c.args.image.now in
    rw (c.in-Answer.is) record { step_made = c.answer_call.ensures.step_made image; buffer_left = c.answer_call.ensures.buffer_left image }

pub returns-in-Entry : goal.returns-in-Entry
unfolding act_in
returns-in-Entry c =
    let image = c.args.image.now in
    rw (c.in-Entry.is) record { step_made = c.entry_call.ensures.step_made image; buffer_left = c.entry_call.ensures.buffer_left image }

pub returns-in-PowerCut : goal.returns-in-PowerCut
unfolding act_in
returns-in-PowerCut c =
    let a = c.args in
    let r = made c.cut_call.result _ _ (c.cut_call.ensures a.image.now) a.buffer.now in
    rw (c.in-PowerCut.is) record { step_made = r.0; buffer_left = r.1 }
