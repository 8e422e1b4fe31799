use Rattle.std.proofs.Common.{◌≡◌, ℕ, List, Some}
use Rattle.gate_log.proofs.Told.{if_told, at_told}
use Rattle.store_replay.specs.Listing.{ListingHas}
use Rattle.store_replay.specs.Walking.{TakesAll}
use Rattle.store_replay.proofs.FaultSteps.{named_checked, looks_checked}
use Rattle.store_replay.proofs.opening.fault_of.Goals as goal

pub returns-in-Err-check-clause-answer : goal.returns-in-Err-check-clause-answer
returns-in-Err-check-clause-answer g c =
    let told = (g.D.Disk.told c.args.log.now.disk).bytes in
    if_told told _ (λ (bytes : List ℕ) (e : told ≡ Some bytes).
    let taken = at_told told bytes (TakesAll ListingHas c.in-Ok.field-0 c.walk.new.state) e c.in-Ok.ensures.answer in
    named_checked c.args.defs.now bytes c.in-Ok.field-0 c.walk.new.state taken c.in-Err-check.fault c.in-Err-check.ensures)

pub returns-in-Err-check-clause-leaves : goal.returns-in-Err-check-clause-leaves
returns-in-Err-check-clause-leaves g c =
    looks_checked c.args.defs.now c.walk.new.state (g.D.Disk.told c.args.log.now.disk) (g.D.Disk.told c.walk.new.log.disk) c.in-Ok.ensures.taken c.in-Err-check.fault c.in-Err-check.ensures c.in-Ok.ensures.leaves
