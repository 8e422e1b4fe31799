use Rattle.resource.specs.Fields.{fields_of}
use Rattle.resource.proofs.KeptWell.{good, well}
use Rattle.resource.specs.declared.mode.Side.TheVariants.{Plain}
use Rattle.resource.proofs.Finishing.{reverted_to, rollback_stops, finish_by_list, finish_good}
use Rattle.resource.proofs.StopSays.{branch_writes}
use Rattle.resource.proofs.mem_resource.MemResourceResource.rollback.Goals as goal

pub returns-clause-leaves : goal.returns-clause-leaves
returns-clause-leaves c =
    let old = fields_of c.args.self.now.inner in
    let new = fields_of c.finish.new.self in
    let g = good old c.args.self.now.kept_well in
    reverted_to old new c.finish.result g c.finish.ensures

pub returns-clause-spare : goal.returns-clause-spare
returns-clause-spare c =
    let old = fields_of c.args.self.now.inner in
    let new = fields_of c.finish.new.self in
    let g = good old c.args.self.now.kept_well in
    tt

pub returns-clause-stops : goal.returns-clause-stops
returns-clause-stops c =
    let old = fields_of c.args.self.now.inner in
    let new = fields_of c.finish.new.self in
    let g = good old c.args.self.now.kept_well in
    rollback_stops old new c.finish.result g c.args.x c.requires c.finish.ensures

pub returns-clause-by_list : goal.returns-clause-by_list
returns-clause-by_list c =
    let old = fields_of c.args.self.now.inner in
    let new = fields_of c.finish.new.self in
    let g = good old c.args.self.now.kept_well in
    finish_by_list old new c.finish.result g Plain c.finish.ensures

pub invariant_of-self : goal.invariant_of-self
invariant_of-self c =
    let old = fields_of c.args.self.now.inner in
    let new = fields_of c.finish.new.self in
    let g = good old c.args.self.now.kept_well in
    record { kept_well = well new (finish_good old new c.finish.result g Plain (branch_writes c.args.x old g c.requires) c.finish.ensures) }
