use Rattle.resource.specs.Fields.{fields_of}
use Rattle.resource.proofs.KeptWell.{good, well}
use Rattle.resource.proofs.KeptWell.{can_write}
use Rattle.resource.proofs.Moving.{plain_ended}
use Rattle.resource.proofs.Finishing.{prepared, prepare_stops, prepare_by_list, prepare_good}
use Rattle.resource.proofs.mem_resource.MemResourceResource.prepare.Goals as goal

pub returns-clause-leaves : goal.returns-clause-leaves
returns-clause-leaves c =
    let old = fields_of c.args.self.now.inner in
    let new = fields_of c.prepare.new.self in
    let g = good old c.args.self.now.kept_well in
    let x = c.args.x in
    let from = plain_ended old.mode x c.requires.state_is in
    prepared x old new c.prepare.result g from.0 c.prepare.ensures

pub returns-clause-spare : goal.returns-clause-spare
returns-clause-spare c =
    let old = fields_of c.args.self.now.inner in
    let new = fields_of c.prepare.new.self in
    let g = good old c.args.self.now.kept_well in
    let x = c.args.x in
    let from = plain_ended old.mode x c.requires.state_is in
    tt

pub returns-clause-stops : goal.returns-clause-stops
returns-clause-stops c =
    let old = fields_of c.args.self.now.inner in
    let new = fields_of c.prepare.new.self in
    let g = good old c.args.self.now.kept_well in
    let x = c.args.x in
    let from = plain_ended old.mode x c.requires.state_is in
    prepare_stops x old new c.prepare.result g from.0 c.prepare.ensures

pub returns-clause-by_list : goal.returns-clause-by_list
returns-clause-by_list c =
    let old = fields_of c.args.self.now.inner in
    let new = fields_of c.prepare.new.self in
    let g = good old c.args.self.now.kept_well in
    let x = c.args.x in
    let from = plain_ended old.mode x c.requires.state_is in
    prepare_by_list x old new c.prepare.result g from.0 c.prepare.ensures

pub invariant_of-self : goal.invariant_of-self
invariant_of-self c =
    let old = fields_of c.args.self.now.inner in
    let new = fields_of c.prepare.new.self in
    let g = good old c.args.self.now.kept_well in
    let x = c.args.x in
    let from = plain_ended old.mode x c.requires.state_is in
    record { kept_well = well new (prepare_good x old new c.prepare.result g from.0 c.prepare.ensures (can_write old g from.1)) }
