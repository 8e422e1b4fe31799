use Rattle.resource.specs.Fields.{fields_of}
use Rattle.resource.proofs.KeptWell.{good, well}
use Rattle.resource.proofs.Finishing.{recovered, recover_images, recover_by_list, recover_good}
use Rattle.resource.proofs.mem_resource.MemResourceResource.recover.Goals as goal

pub returns-clause-leaves : goal.returns-clause-leaves
returns-clause-leaves c =
    let old = fields_of c.args.self.now.inner in
    let new = fields_of c.recover.new.self in
    let g = good old c.args.self.now.kept_well in
    recovered old new c.recover.result c.recover.ensures

pub returns-clause-stops : goal.returns-clause-stops
returns-clause-stops c =
    let old = fields_of c.args.self.now.inner in
    let new = fields_of c.recover.new.self in
    let g = good old c.args.self.now.kept_well in
    recover_images old new c.recover.result c.recover.ensures

pub returns-clause-by_list : goal.returns-clause-by_list
returns-clause-by_list c =
    let old = fields_of c.args.self.now.inner in
    let new = fields_of c.recover.new.self in
    let g = good old c.args.self.now.kept_well in
    recover_by_list old new c.recover.result c.recover.ensures

pub invariant_of-self : goal.invariant_of-self
invariant_of-self c =
    let old = fields_of c.args.self.now.inner in
    let new = fields_of c.recover.new.self in
    let g = good old c.args.self.now.kept_well in
    record { kept_well = well new (recover_good old new c.recover.result g c.recover.ensures) }
