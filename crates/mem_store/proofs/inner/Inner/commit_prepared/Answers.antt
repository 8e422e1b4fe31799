use Rattle.mem_store.proofs.MoreRecords.{IsFrame-Frames}
use Rattle.mem_store.proofs.EndedCalls.{commit_writes, commit_fails}
use Rattle.mem_store.proofs.inner.Inner.commit_prepared.Goals as goal

pub write-requires-clause-form : goal.write-requires-clause-form
write-requires-clause-form g c = IsFrame-Frames _ c.ending_frame.result c.ending_frame.ensures

pub returns-in-Ok-clause-leaves : goal.returns-in-Ok-clause-leaves
returns-in-Ok-clause-leaves g c =
    (commit_writes _ _ c.args.self.now c.write.new.self c.args.x c.requires.may c.requires.stands c.ending_frame.result c.ending_frame.ensures c.keep.new.self c.in-Ok.ensures.logs c.in-Ok.ensures.leaves c.keep.ensures).0

pub returns-in-Ok-clause-stops : goal.returns-in-Ok-clause-stops
returns-in-Ok-clause-stops g c =
    (commit_writes _ _ c.args.self.now c.write.new.self c.args.x c.requires.may c.requires.stands c.ending_frame.result c.ending_frame.ensures c.keep.new.self c.in-Ok.ensures.logs c.in-Ok.ensures.leaves c.keep.ensures).2

pub returns-in-Ok-clause-stands : goal.returns-in-Ok-clause-stands
returns-in-Ok-clause-stands g c =
    (commit_writes _ _ c.args.self.now c.write.new.self c.args.x c.requires.may c.requires.stands c.ending_frame.result c.ending_frame.ensures c.keep.new.self c.in-Ok.ensures.logs c.in-Ok.ensures.leaves c.keep.ensures).3

pub returns-in-Err-clause-leaves : goal.returns-in-Err-clause-leaves
returns-in-Err-clause-leaves g c =
    (commit_fails _ _ c.args.self.now c.write.new.self c.args.x c.requires.may c.requires.stands c.ending_frame.result c.ending_frame.ensures c.in-Err.ensures.logs c.in-Err.ensures.leaves).0

pub returns-in-Err-clause-stops : goal.returns-in-Err-clause-stops
returns-in-Err-clause-stops g c =
    (commit_fails _ _ c.args.self.now c.write.new.self c.args.x c.requires.may c.requires.stands c.ending_frame.result c.ending_frame.ensures c.in-Err.ensures.logs c.in-Err.ensures.leaves).2

pub returns-in-Err-clause-stands : goal.returns-in-Err-clause-stands
returns-in-Err-clause-stands g c =
    (commit_fails _ _ c.args.self.now c.write.new.self c.args.x c.requires.may c.requires.stands c.ending_frame.result c.ending_frame.ensures c.in-Err.ensures.logs c.in-Err.ensures.leaves).3
