use Rattle.std.proofs.Common.{refl}
use Rattle.resource.specs.Fields.{fields_of}
use Rattle.resource.proofs.KeptWell.{good, well}
use Rattle.resource.specs.declared.mode.Mode.TheVariants as mode
use Rattle.resource.specs.declared.mode.Side.TheVariants.{Plain}
use Rattle.resource.specs.Steps.{ending}
use Rattle.resource.proofs.KeptWell.{can_write}
use Rattle.resource.proofs.Moving.{plain_active, moved, moved_images, steps_by_list, ended_good}
use Rattle.resource.proofs.mem_resource.MemResourceResource.end.Goals as goal

pub returns-clause-leaves : goal.returns-clause-leaves
returns-clause-leaves c =
    let old = fields_of c.args.self.now.inner in
    let new = fields_of c.end.new.self in
    let g = good old c.args.self.now.kept_well in
    let x = c.args.x in
    moved (mode.Ended x) old new c.end.result ((plain_active old.mode x c.requires.state_is).0) (record { first = refl; other = refl }) c.end.ensures

pub returns-clause-stops : goal.returns-clause-stops
returns-clause-stops c =
    let old = fields_of c.args.self.now.inner in
    let new = fields_of c.end.new.self in
    let g = good old c.args.self.now.kept_well in
    let x = c.args.x in
    moved_images (mode.Ended x) old new c.end.result ((plain_active old.mode x c.requires.state_is).0) (record { first = refl; other = refl }) c.end.ensures

pub returns-clause-by_list : goal.returns-clause-by_list
returns-clause-by_list c =
    let old = fields_of c.args.self.now.inner in
    let new = fields_of c.end.new.self in
    let g = good old c.args.self.now.kept_well in
    let x = c.args.x in
    steps_by_list (ending x) Plain old new c.end.result refl c.end.ensures

pub invariant_of-self : goal.invariant_of-self
invariant_of-self c =
    let old = fields_of c.args.self.now.inner in
    let new = fields_of c.end.new.self in
    let g = good old c.args.self.now.kept_well in
    let x = c.args.x in
    record { kept_well = well new (ended_good x old new c.end.result g (can_write old g (plain_active old.mode x c.requires.state_is).1) c.end.ensures) }
