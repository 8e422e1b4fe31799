use Rattle.std.proofs.Common.{refl}
use Rattle.mem_store.proofs.OnePhaseCalls.{one_phase_quiet, one_phase_form, one_phase_writes, one_phase_fails}
use Rattle.mem_store.proofs.inner.Inner.commit_ended.Goals as goal

pub returns-then-is_unchanged-clause-stops : goal.returns-then-is_unchanged-clause-stops
returns-then-is_unchanged-clause-stops g c =
    (one_phase_quiet _ _ c.args.self.now _ c.args.x c.requires.may.0 c.requires.stands c.in-Some.frame c.in-Some.ensures.value c.take.new.self c.in-Some.ensures.after c.keep.new.self c.if-is_unchanged.ensures refl c.keep.ensures).2

pub write-requires-clause-form : goal.write-requires-clause-form
write-requires-clause-form g c =
    one_phase_form _ _ c.args.self.now c.args.self.now c.args.x c.requires.may.0 c.requires.stands c.in-Some.frame c.in-Some.ensures.value c.take.new.self c.in-Some.ensures.after c.as_slice.result.now c.as_slice.ensures.value

pub returns-in-Ok-clause-leaves : goal.returns-in-Ok-clause-leaves
returns-in-Ok-clause-leaves g c =
    (one_phase_writes _ _ c.args.self.now c.write.new.self c.args.x c.requires.may.0 c.requires.stands c.in-Some.frame c.in-Some.ensures.value c.take.new.self c.in-Some.ensures.after c.as_slice.result.now c.as_slice.ensures.value
    c.keep-in-Ok.new.self c.in-Ok.ensures.logs c.in-Ok.ensures.leaves c.keep-in-Ok.ensures).0

pub returns-in-Ok-clause-stops : goal.returns-in-Ok-clause-stops
returns-in-Ok-clause-stops g c =
    (one_phase_writes _ _ c.args.self.now c.write.new.self c.args.x c.requires.may.0 c.requires.stands c.in-Some.frame c.in-Some.ensures.value c.take.new.self c.in-Some.ensures.after c.as_slice.result.now c.as_slice.ensures.value
    c.keep-in-Ok.new.self c.in-Ok.ensures.logs c.in-Ok.ensures.leaves c.keep-in-Ok.ensures).2

pub returns-in-Ok-clause-stands : goal.returns-in-Ok-clause-stands
returns-in-Ok-clause-stands g c =
    (one_phase_writes _ _ c.args.self.now c.write.new.self c.args.x c.requires.may.0 c.requires.stands c.in-Some.frame c.in-Some.ensures.value c.take.new.self c.in-Some.ensures.after c.as_slice.result.now c.as_slice.ensures.value
    c.keep-in-Ok.new.self c.in-Ok.ensures.logs c.in-Ok.ensures.leaves c.keep-in-Ok.ensures).3

pub returns-clause-leaves : goal.returns-clause-leaves
returns-clause-leaves g c =
    (one_phase_fails _ _ c.args.self.now c.write.new.self c.args.x c.requires.may.0 c.requires.stands c.in-Some.frame c.in-Some.ensures.value c.take.new.self c.in-Some.ensures.after c.as_slice.result.now c.as_slice.ensures.value
    c.in-Err.ensures.logs c.in-Err.ensures.leaves).0

pub returns-clause-stops : goal.returns-clause-stops
returns-clause-stops g c =
    (one_phase_fails _ _ c.args.self.now c.write.new.self c.args.x c.requires.may.0 c.requires.stands c.in-Some.frame c.in-Some.ensures.value c.take.new.self c.in-Some.ensures.after c.as_slice.result.now c.as_slice.ensures.value
    c.in-Err.ensures.logs c.in-Err.ensures.leaves).2

pub returns-clause-stands : goal.returns-clause-stands
returns-clause-stands g c =
    (one_phase_fails _ _ c.args.self.now c.write.new.self c.args.x c.requires.may.0 c.requires.stands c.in-Some.frame c.in-Some.ensures.value c.take.new.self c.in-Some.ensures.after c.as_slice.result.now c.as_slice.ensures.value
    c.in-Err.ensures.logs c.in-Err.ensures.leaves).3
