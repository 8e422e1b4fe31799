use Rattle.gate_log.specs.Opening.{FoundBad}
use Rattle.store_replay.proofs.OpenSteps.{opens_before, opens_bad}
use Rattle.store_replay.proofs.opening.open_store.Goals as goal

pub returns-in-Ok-clause-answer : goal.returns-in-Ok-clause-answer
returns-in-Ok-clause-answer g c =
    let old = c.args.log.now in
    let mid = c.reopen.new.self in
    opens_before mid.end (g.D.Disk.told old.disk) (g.D.Disk.told mid.disk) (g.D.Disk.images old.disk) (g.D.Disk.images mid.disk) c.in-Ok.ensures.answer c.args.defs c.read_store.result c.read_store.ensures.answer

pub returns-in-Err-Bad-clause-answer : goal.returns-in-Err-Bad-clause-answer
returns-in-Err-Bad-clause-answer g c =
    let old = c.args.log.now in
    let new = c.reopen.new.self in
    let bad : FoundBad (g.D.Disk.told old.disk) (g.D.Disk.told new.disk) (g.D.Disk.images new.disk) = rw c.in-Err-Bad.field-0-is at c.in-Err-Bad.ensures.answer in
    opens_bad c.args.defs (g.D.Disk.told old.disk) (g.D.Disk.told new.disk) (g.D.Disk.images new.disk) bad
