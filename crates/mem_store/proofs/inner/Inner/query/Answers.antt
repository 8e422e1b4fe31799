use Rattle.mem_store.proofs.StoreAsks.{query_answers, query_fits}
use Rattle.mem_store.proofs.inner.Inner.query.Goals as goal

pub returns-clause-answer : goal.returns-clause-answer
returns-clause-answer g c = query_answers g.D.Disk.told g.D.Disk.images c.args.self.now c.requires.stands c.args.q.now c.requires.may c.in-Some.attached c.in-Some.is c.in-Ok.rows c.in-Ok.ensures

pub returns-clause-fit : goal.returns-clause-fit
returns-clause-fit g c = query_fits g.D.Disk.told g.D.Disk.images c.args.self.now c.requires.stands c.args.q.now c.requires.may c.in-Some.attached c.in-Some.is c.in-Ok.rows c.in-Ok.ensures
