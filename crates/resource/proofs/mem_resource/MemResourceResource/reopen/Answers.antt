use Rattle.std.proofs.Common.{refl}
use Rattle.resource.specs.Fields.{fields_of}
use Rattle.resource.proofs.KeptWell.{good, well}
use Rattle.resource.proofs.Finishing.{reopened, reopen_settled, reopen_images, reopen_by_list, reopen_good}
use Rattle.resource.proofs.mem_resource.MemResourceResource.reopen.Goals as goal

pub returns-clause-leaves : goal.returns-clause-leaves
returns-clause-leaves c =
    let old = fields_of c.args.self.now.inner in
    let new = fields_of c.reopen.new.self in
    let g = good old c.args.self.now.kept_well in
    reopened old new g c.reopen.result c.reopen.ensures

pub returns-clause-settled : goal.returns-clause-settled
returns-clause-settled c =
    let old = fields_of c.args.self.now.inner in
    let new = fields_of c.reopen.new.self in
    let g = good old c.args.self.now.kept_well in
    reopen_settled old new g c.reopen.result c.reopen.ensures

pub returns-clause-spare : goal.returns-clause-spare
returns-clause-spare c =
    let old = fields_of c.args.self.now.inner in
    let new = fields_of c.reopen.new.self in
    let g = good old c.args.self.now.kept_well in
    refl

pub returns-clause-stops : goal.returns-clause-stops
returns-clause-stops c =
    let old = fields_of c.args.self.now.inner in
    let new = fields_of c.reopen.new.self in
    let g = good old c.args.self.now.kept_well in
    reopen_images old new g c.reopen.result c.reopen.ensures

pub returns-clause-by_list : goal.returns-clause-by_list
returns-clause-by_list c =
    let old = fields_of c.args.self.now.inner in
    let new = fields_of c.reopen.new.self in
    let g = good old c.args.self.now.kept_well in
    reopen_by_list old new g c.reopen.result c.reopen.ensures

pub invariant_of-self : goal.invariant_of-self
invariant_of-self c =
    let old = fields_of c.args.self.now.inner in
    let new = fields_of c.reopen.new.self in
    let g = good old c.args.self.now.kept_well in
    record { kept_well = well new (reopen_good old new g c.reopen.result c.reopen.ensures) }
