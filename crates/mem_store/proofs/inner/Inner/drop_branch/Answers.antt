use Rattle.std.proofs.Common.{refl}
use Rattle.mem_store.proofs.DropCalls.{dropped}
use Rattle.mem_store.proofs.inner.Inner.drop_branch.Goals as goal

pub returns : goal.returns
returns g c = dropped _ _ c.args.self.now _ c.take_back.new.self c.requires.stands refl c.take_back.ensures
