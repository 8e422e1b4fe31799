use Rattle.mem_store.proofs.DropCalls.{gone, gone_stands}
use Rattle.mem_store.proofs.inner.Inner.rollback.Goals as goal

pub returns-in_default : goal.returns-in_default
returns-in_default g c =
    let r = c.requires in
    let unprepared = c.in_default.not-Prepared c.args.x in
    let says = gone _ _ c.args.self.now c.args.x c.drop_branch.new.self r.stands c.drop_branch.ensures unprepared r.may in
    record {
      leaves = says.0;
      spare = says.1;
      stops = says.2;
      stands = gone_stands _ _ c.args.self.now c.args.x c.drop_branch.new.self r.stands c.drop_branch.ensures unprepared r.may;
    }
