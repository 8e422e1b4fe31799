use Rattle.resource.specs.Fields.{fields_of}
use Rattle.resource.proofs.KeptWell.{good, well}
use Rattle.resource.proofs.StopSays.{stopped_is, stopped_good}
use Rattle.resource.proofs.mem_resource.MemResource.stopped.Goals as goal

pub returns : goal.returns
returns c = record { told = stopped_is c.args.image (fields_of c.args.self.inner) (fields_of c.stop.new.self) c.stop.ensures }

pub invariant_of-result : goal.invariant_of-result
invariant_of-result c =
    let old = fields_of c.args.self.inner in
    let new = fields_of c.stop.new.self in
    record { kept_well = well new (stopped_good c.args.image old new (good old c.args.self.kept_well) c.stop.ensures) }
