use Rattle.std.proofs.Common.{subst}
use Rattle.vdb_session.specs.Deploying.{StartedOver}
use Rattle.vdb_session.proofs.StartSays.{ready, started}
use Rattle.vdb_session.proofs.engine.Engine.start.Goals as goal

pub invariant_of-result : goal.invariant_of-result
invariant_of-result g c =
    ready g.S.Resource.told c.args.parts.ddl c.in-Ok.catalog _ c.args.parts.lanes c.deploy_and_attach.new.lanes
    (subst (λ ddl. StartedOver g.S.Resource.told ddl c.args.parts.lanes c.in-Ok.catalog c.deploy_and_attach.new.lanes) c.as_slice.ensures c.in-Ok.ensures.starts)

pub returns-in-Ok : goal.returns-in-Ok
returns-in-Ok g c =
    started g.S.Resource.told g.S.Resource.images c.args.parts.ddl c.in-Ok.catalog c.args.parts.lanes c.deploy_and_attach.new.lanes c.in-Ok.ensures.stays
    (subst (λ ddl. StartedOver g.S.Resource.told ddl c.args.parts.lanes c.in-Ok.catalog c.deploy_and_attach.new.lanes) c.as_slice.ensures c.in-Ok.ensures.starts)
