use Rattle.std.proofs.Common.{ℕ, List, length, sym, subst, refl}
use Rattle.gate_log.specs.Appending.{IsFrame, payload_of}
use Rattle.mem_store.specs.Appends.{HasAppended, HasFailed}
use Rattle.mem_store.proofs.MoreRecords.{IsFrame-Frames}
use Rattle.mem_store.proofs.PrepareCalls.{no_items, some_items, prepare_reads, prepare_writes, prepare_fails}
use Rattle.mem_store.proofs.inner.Inner.prepare.Goals as goal

pub returns-then-is_empty-clause-stops : goal.returns-then-is_empty-clause-stops
returns-then-is_empty-clause-stops g c =
    let r = c.requires in
    (prepare_reads _ _ c.args.self.now _ c.in-Some.attached c.args.x c.in-Some.is r.may.state_is r.stands (no_items c.in-Some.attached.deltas c.if-is_empty.ensures) refl).2

pub write-requires-clause-form : goal.write-requires-clause-form
write-requires-clause-form g c = subst IsFrame (sym c.as_slice.ensures.value) (IsFrame-Frames _ c.in-Ok.frame.items c.in-Ok.ensures.frame)

pub returns-in-Ok-write-clause-leaves : goal.returns-in-Ok-write-clause-leaves
returns-in-Ok-write-clause-leaves g c =
    let r = c.requires in
    let frame = c.in-Ok.ensures in
    let logs = subst (λ (f : List ℕ). HasAppended g.D.Disk.told g.D.Disk.images (payload_of f) (length f) c.args.self.now.log c.write.new.self.log) c.as_slice.ensures.value c.in-Ok-write.ensures.logs in
    (prepare_writes _ _ c.args.self.now c.write.new.self c.in-Some.attached c.args.x c.in-Some.is r.may.state_is r.stands c.in-Ok.frame.items (some_items c.in-Some.attached.deltas c.if-is_empty.ensures) frame.frame frame.size logs c.in-Ok-write.ensures.leaves).0

pub returns-in-Ok-write-clause-stops : goal.returns-in-Ok-write-clause-stops
returns-in-Ok-write-clause-stops g c =
    let r = c.requires in
    let frame = c.in-Ok.ensures in
    let logs = subst (λ (f : List ℕ). HasAppended g.D.Disk.told g.D.Disk.images (payload_of f) (length f) c.args.self.now.log c.write.new.self.log) c.as_slice.ensures.value c.in-Ok-write.ensures.logs in
    (prepare_writes _ _ c.args.self.now c.write.new.self c.in-Some.attached c.args.x c.in-Some.is r.may.state_is r.stands c.in-Ok.frame.items (some_items c.in-Some.attached.deltas c.if-is_empty.ensures) frame.frame frame.size logs c.in-Ok-write.ensures.leaves).2

pub returns-in-Ok-write-clause-stands : goal.returns-in-Ok-write-clause-stands
returns-in-Ok-write-clause-stands g c =
    let r = c.requires in
    let frame = c.in-Ok.ensures in
    let logs = subst (λ (f : List ℕ). HasAppended g.D.Disk.told g.D.Disk.images (payload_of f) (length f) c.args.self.now.log c.write.new.self.log) c.as_slice.ensures.value c.in-Ok-write.ensures.logs in
    (prepare_writes _ _ c.args.self.now c.write.new.self c.in-Some.attached c.args.x c.in-Some.is r.may.state_is r.stands c.in-Ok.frame.items (some_items c.in-Some.attached.deltas c.if-is_empty.ensures) frame.frame frame.size logs c.in-Ok-write.ensures.leaves).3

pub returns-clause-leaves : goal.returns-clause-leaves
returns-clause-leaves g c =
    let r = c.requires in
    let frame = c.in-Ok.ensures in
    let logs = subst (λ (f : List ℕ). HasFailed g.D.Disk.told g.D.Disk.images (payload_of f) c.args.self.now.log c.write.new.self.log) c.as_slice.ensures.value c.in-Err.ensures.logs in
    (prepare_fails _ _ c.args.self.now c.write.new.self c.in-Some.attached c.args.x c.in-Some.is r.may.state_is r.stands c.in-Ok.frame.items (some_items c.in-Some.attached.deltas c.if-is_empty.ensures) frame.frame frame.size logs c.in-Err.ensures.leaves).0

pub returns-clause-stops : goal.returns-clause-stops
returns-clause-stops g c =
    let r = c.requires in
    let frame = c.in-Ok.ensures in
    let logs = subst (λ (f : List ℕ). HasFailed g.D.Disk.told g.D.Disk.images (payload_of f) c.args.self.now.log c.write.new.self.log) c.as_slice.ensures.value c.in-Err.ensures.logs in
    (prepare_fails _ _ c.args.self.now c.write.new.self c.in-Some.attached c.args.x c.in-Some.is r.may.state_is r.stands c.in-Ok.frame.items (some_items c.in-Some.attached.deltas c.if-is_empty.ensures) frame.frame frame.size logs c.in-Err.ensures.leaves).2

pub returns-clause-stands : goal.returns-clause-stands
returns-clause-stands g c =
    let r = c.requires in
    let frame = c.in-Ok.ensures in
    let logs = subst (λ (f : List ℕ). HasFailed g.D.Disk.told g.D.Disk.images (payload_of f) c.args.self.now.log c.write.new.self.log) c.as_slice.ensures.value c.in-Err.ensures.logs in
    (prepare_fails _ _ c.args.self.now c.write.new.self c.in-Some.attached c.args.x c.in-Some.is r.may.state_is r.stands c.in-Ok.frame.items (some_items c.in-Some.attached.deltas c.if-is_empty.ensures) frame.frame frame.size logs c.in-Err.ensures.leaves).3
