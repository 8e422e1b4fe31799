use Rattle.resource.specs.Fields.{fields_of}
use Rattle.resource.proofs.KeptWell.{good, well}
use Rattle.resource.proofs.ChangeSays.{change_answers, change_leaves, change_images, change_world, change_by_list, change_good}
use Rattle.resource.proofs.mem_resource.MemResourceResource.change.Goals as goal

pub returns-clause-answer : goal.returns-clause-answer
returns-clause-answer c =
    let old = fields_of c.args.self.now.inner in
    let new = fields_of c.change.new.self in
    let g = good old c.args.self.now.kept_well in
    let delta = c.args.delta.now in
    change_answers delta old new g c.requires c.change.result c.change.ensures

pub returns-clause-world : goal.returns-clause-world
returns-clause-world c =
    let old = fields_of c.args.self.now.inner in
    let new = fields_of c.change.new.self in
    let g = good old c.args.self.now.kept_well in
    let delta = c.args.delta.now in
    change_world delta old new g c.requires c.change.result c.change.ensures

pub returns-clause-leaves : goal.returns-clause-leaves
returns-clause-leaves c =
    let old = fields_of c.args.self.now.inner in
    let new = fields_of c.change.new.self in
    let g = good old c.args.self.now.kept_well in
    let delta = c.args.delta.now in
    change_leaves delta old new g c.requires c.change.result c.change.ensures

pub returns-clause-stops : goal.returns-clause-stops
returns-clause-stops c =
    let old = fields_of c.args.self.now.inner in
    let new = fields_of c.change.new.self in
    let g = good old c.args.self.now.kept_well in
    let delta = c.args.delta.now in
    change_images delta old new g c.requires c.change.result c.change.ensures

pub returns-clause-by_list : goal.returns-clause-by_list
returns-clause-by_list c =
    let old = fields_of c.args.self.now.inner in
    let new = fields_of c.change.new.self in
    let g = good old c.args.self.now.kept_well in
    let delta = c.args.delta.now in
    change_by_list delta old new g c.requires c.change.result c.change.ensures

pub invariant_of-self : goal.invariant_of-self
invariant_of-self c =
    let old = fields_of c.args.self.now.inner in
    let new = fields_of c.change.new.self in
    let g = good old c.args.self.now.kept_well in
    let delta = c.args.delta.now in
    record { kept_well = well new (change_good delta old new g c.requires c.change.result c.change.ensures) }
