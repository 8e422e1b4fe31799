use Rattle.std.proofs.Common.{refl}
use Rattle.mem_store.proofs.FinishCalls.{keeps_so}
use Rattle.mem_store.proofs.inner.Inner.keep.Goals as goal

pub returns-in-Some : goal.returns-in-Some
returns-in-Some g c =
    keeps_so c.args.self.now _ c.keep.new.self c.in-Some.is
    (record { after = c.keep.new.self; is = refl; ended = record { defs = c.keep.ensures.defs; deltas = c.keep.ensures.deltas; written = c.keep.ensures.written; has = c.keep.ensures.has } })
