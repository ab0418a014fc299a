-- The number picks the act on both sides.
use Rattle.machine.specs.Call.{act_by, act_in}
use Rattle.machine.proofs.make.Goals as goal

pub returns-in-Request : goal.returns-in-Request
unfolding act_by act_in
returns-in-Request c = rw (← c.from.ensures, c.in-Request.is) record { step_made = c.perform.ensures.step_made; buffer_left = c.perform.ensures.buffer_left }

pub returns-in-UpdateBoot : goal.returns-in-UpdateBoot
unfolding act_by act_in
returns-in-UpdateBoot c = rw (← c.from.ensures, c.in-UpdateBoot.is) record { step_made = c.perform-in-UpdateBoot.ensures.step_made; buffer_left = c.perform-in-UpdateBoot.ensures.buffer_left }

pub returns-in-Store : goal.returns-in-Store
unfolding act_by act_in
returns-in-Store c = rw (← c.from.ensures, c.in-Store.is) record { step_made = c.perform-in-Store.ensures.step_made; buffer_left = c.perform-in-Store.ensures.buffer_left }

pub returns-in-ColdBoot : goal.returns-in-ColdBoot
unfolding act_by act_in
returns-in-ColdBoot c = rw (← c.from.ensures, c.in-ColdBoot.is) record { step_made = c.perform-in-ColdBoot.ensures.step_made; buffer_left = c.perform-in-ColdBoot.ensures.buffer_left }

pub returns-in-Answer : goal.returns-in-Answer
unfolding act_by act_in
returns-in-Answer c = rw (← c.from.ensures, c.in-Answer.is) record { step_made = c.perform-in-Answer.ensures.step_made; buffer_left = c.perform-in-Answer.ensures.buffer_left }

pub returns-in-Entry : goal.returns-in-Entry
unfolding act_by act_in
returns-in-Entry c = rw (← c.from.ensures, c.in-Entry.is) record { step_made = c.perform-in-Entry.ensures.step_made; buffer_left = c.perform-in-Entry.ensures.buffer_left }

pub returns-in-PowerCut : goal.returns-in-PowerCut
unfolding act_by act_in
returns-in-PowerCut c = rw (← c.from.ensures, c.in-PowerCut.is) record { step_made = c.perform-in-PowerCut.ensures.step_made; buffer_left = c.perform-in-PowerCut.ensures.buffer_left }
