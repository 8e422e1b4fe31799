use Rattle.std.proofs.Common.{refl}
use Rattle.resource.specs.Fields.{fields_of}
use Rattle.resource.proofs.KeptWell.{good, well}
use Rattle.resource.proofs.AttachSays.{attach_answers, attach_leaves, attach_settled, attach_images, attach_by_list, attach_good}
use Rattle.resource.proofs.mem_resource.MemResourceResource.attach.Goals as goal

pub returns-clause-answer : goal.returns-clause-answer
returns-clause-answer c =
    let old = fields_of c.args.self.now.inner in
    let new = fields_of c.attach.new.self in
    let g = good old c.args.self.now.kept_well in
    let defs = c.args.defs.now in
    attach_answers defs old new g c.requires c.attach.result c.attach.ensures

pub returns-clause-leaves : goal.returns-clause-leaves
returns-clause-leaves c =
    let old = fields_of c.args.self.now.inner in
    let new = fields_of c.attach.new.self in
    let g = good old c.args.self.now.kept_well in
    let defs = c.args.defs.now in
    attach_leaves defs old new g c.requires c.attach.result c.attach.ensures

pub returns-clause-settled : goal.returns-clause-settled
returns-clause-settled c =
    let old = fields_of c.args.self.now.inner in
    let new = fields_of c.attach.new.self in
    let g = good old c.args.self.now.kept_well in
    let defs = c.args.defs.now in
    attach_settled defs old new g c.requires c.attach.result c.attach.ensures

pub returns-clause-spare : goal.returns-clause-spare
returns-clause-spare c =
    let old = fields_of c.args.self.now.inner in
    let new = fields_of c.attach.new.self in
    let g = good old c.args.self.now.kept_well in
    let defs = c.args.defs.now in
    refl

pub returns-clause-stops : goal.returns-clause-stops
returns-clause-stops c =
    let old = fields_of c.args.self.now.inner in
    let new = fields_of c.attach.new.self in
    let g = good old c.args.self.now.kept_well in
    let defs = c.args.defs.now in
    attach_images defs old new g c.requires c.attach.result c.attach.ensures

pub returns-clause-by_list : goal.returns-clause-by_list
returns-clause-by_list c =
    let old = fields_of c.args.self.now.inner in
    let new = fields_of c.attach.new.self in
    let g = good old c.args.self.now.kept_well in
    let defs = c.args.defs.now in
    attach_by_list defs old new g c.requires c.attach.result c.attach.ensures

pub invariant_of-self : goal.invariant_of-self
invariant_of-self c =
    let old = fields_of c.args.self.now.inner in
    let new = fields_of c.attach.new.self in
    let g = good old c.args.self.now.kept_well in
    let defs = c.args.defs.now in
    record { kept_well = well new (attach_good defs old new g c.requires c.attach.result c.attach.ensures) }
