use Rattle.std.proofs.Common.{refl}
use Rattle.resource.specs.Fields.{fields_of}
use Rattle.resource.proofs.KeptWell.{good, well}
use Rattle.resource.specs.declared.mode.Mode.TheVariants as mode
use Rattle.resource.specs.declared.mode.Side.TheVariants.{Plain}
use Rattle.resource.specs.Steps.{starting}
use Rattle.resource.proofs.Moving.{plain_idle, moved, moved_images, steps_by_list, started_good}
use Rattle.resource.proofs.mem_resource.MemResourceResource.start.Goals as goal

pub returns-clause-leaves : goal.returns-clause-leaves
returns-clause-leaves c =
    let old = fields_of c.args.self.now.inner in
    let new = fields_of c.start.new.self in
    let g = good old c.args.self.now.kept_well in
    let x = c.args.x in
    moved (mode.Active x) old new c.start.result (plain_idle old.mode c.requires.idle.state_is) (record { first = refl; other = refl }) c.start.ensures

pub returns-clause-stops : goal.returns-clause-stops
returns-clause-stops c =
    let old = fields_of c.args.self.now.inner in
    let new = fields_of c.start.new.self in
    let g = good old c.args.self.now.kept_well in
    let x = c.args.x in
    moved_images (mode.Active x) old new c.start.result (plain_idle old.mode c.requires.idle.state_is) (record { first = refl; other = refl }) c.start.ensures

pub returns-clause-by_list : goal.returns-clause-by_list
returns-clause-by_list c =
    let old = fields_of c.args.self.now.inner in
    let new = fields_of c.start.new.self in
    let g = good old c.args.self.now.kept_well in
    let x = c.args.x in
    steps_by_list (starting x) Plain old new c.start.result refl c.start.ensures

pub invariant_of-self : goal.invariant_of-self
invariant_of-self c =
    let old = fields_of c.args.self.now.inner in
    let new = fields_of c.start.new.self in
    let g = good old c.args.self.now.kept_well in
    let x = c.args.x in
    record { kept_well = well new (started_good x old new c.start.result g (c.requires.writes) c.start.ensures) }
