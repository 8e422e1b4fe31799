use Rattle.resource.specs.Fields.{fields_of}
use Rattle.resource.proofs.KeptWell.{good, well}
use Rattle.resource.proofs.QuerySays.{query_answers, query_fits, query_world, query_leaves, query_images, query_by_list, query_good}
use Rattle.resource.proofs.mem_resource.MemResourceResource.query.Goals as goal

pub returns-clause-answer : goal.returns-clause-answer
returns-clause-answer c =
    let old = fields_of c.args.self.now.inner in
    let new = fields_of c.query.new.self in
    let g = good old c.args.self.now.kept_well in
    let q = c.args.q.now in
    query_answers q old new g c.requires c.query.result c.query.ensures

pub returns-clause-fit : goal.returns-clause-fit
returns-clause-fit c =
    let old = fields_of c.args.self.now.inner in
    let new = fields_of c.query.new.self in
    let g = good old c.args.self.now.kept_well in
    let q = c.args.q.now in
    query_fits q old new g c.requires c.query.result c.query.ensures

pub returns-clause-world : goal.returns-clause-world
returns-clause-world c =
    let old = fields_of c.args.self.now.inner in
    let new = fields_of c.query.new.self in
    let g = good old c.args.self.now.kept_well in
    let q = c.args.q.now in
    query_world q old new g c.requires c.query.result

pub returns-clause-leaves : goal.returns-clause-leaves
returns-clause-leaves c =
    let old = fields_of c.args.self.now.inner in
    let new = fields_of c.query.new.self in
    let g = good old c.args.self.now.kept_well in
    let q = c.args.q.now in
    query_leaves q old new g c.requires c.query.result c.query.ensures

pub returns-clause-stops : goal.returns-clause-stops
returns-clause-stops c =
    let old = fields_of c.args.self.now.inner in
    let new = fields_of c.query.new.self in
    let g = good old c.args.self.now.kept_well in
    let q = c.args.q.now in
    query_images q old new g c.requires c.query.result c.query.ensures

pub returns-clause-by_list : goal.returns-clause-by_list
returns-clause-by_list c =
    let old = fields_of c.args.self.now.inner in
    let new = fields_of c.query.new.self in
    let g = good old c.args.self.now.kept_well in
    let q = c.args.q.now in
    query_by_list q old new g c.requires c.query.result c.query.ensures

pub invariant_of-self : goal.invariant_of-self
invariant_of-self c =
    let old = fields_of c.args.self.now.inner in
    let new = fields_of c.query.new.self in
    let g = good old c.args.self.now.kept_well in
    let q = c.args.q.now in
    record { kept_well = well new (query_good q old new g c.requires c.query.result c.query.ensures) }
