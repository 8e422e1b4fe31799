use Rattle.std.proofs.Common.{refl}
use Rattle.mem_store.proofs.FinishCalls.{takes_back_so}
use Rattle.mem_store.proofs.inner.Inner.take_back.Goals as goal

pub returns-in-Some : goal.returns-in-Some
returns-in-Some g c =
    takes_back_so c.args.self.now _ c.take_back.new.self c.in-Some.is
    (record { after = c.take_back.new.self; is = refl; ended = record { defs = c.take_back.ensures.defs; deltas = c.take_back.ensures.deltas; written = c.take_back.ensures.written; has = c.take_back.ensures.has } })
