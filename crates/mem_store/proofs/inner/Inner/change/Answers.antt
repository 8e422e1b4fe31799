use Rattle.mem_store.proofs.ChangingSteps.{changed_answer, change_world, change_stands}
use Rattle.mem_store.proofs.inner.Inner.change.Goals as goal

pub returns-in-Some-clause-answer : goal.returns-in-Some-clause-answer
returns-in-Some-clause-answer g c = changed_answer g.D.Disk.told g.D.Disk.images c.args.self.now c.requires.stands c.args.delta.now c.requires.may c.in-Some.attached c.in-Some.is c.change.new.self c.change.result c.left-left.result c.left-left.ensures c.change.ensures.defs c.change.ensures.written c.change.ensures.deltas c.change.ensures.has c.change.ensures.room c.change.ensures.key

pub returns-in-Some-clause-world : goal.returns-in-Some-clause-world
returns-in-Some-clause-world g c = change_world g.D.Disk.told g.D.Disk.images c.args.self.now c.requires.stands c.args.delta.now c.requires.may c.in-Some.attached c.in-Some.is c.change.new.self c.change.result c.left-left.result c.left-left.ensures c.change.ensures.defs c.change.ensures.written c.change.ensures.deltas c.change.ensures.has c.change.ensures.room c.change.ensures.key

pub returns-in-Some-clause-stands : goal.returns-in-Some-clause-stands
returns-in-Some-clause-stands g c = change_stands g.D.Disk.told g.D.Disk.images c.args.self.now c.requires.stands c.args.delta.now c.requires.may c.in-Some.attached c.in-Some.is c.change.new.self c.change.result c.left-left.result c.left-left.ensures c.change.ensures.defs c.change.ensures.written c.change.ensures.deltas c.change.ensures.has c.change.ensures.room c.change.ensures.key
