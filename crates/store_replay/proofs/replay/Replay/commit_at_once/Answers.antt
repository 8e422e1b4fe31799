use Rattle.std.proofs.Common.{refl, sym}
use Rattle.store_replay.proofs.ReplaySteps.{at_once}
use Rattle.store_replay.proofs.replay.Replay.commit_at_once.Goals as goal

pub returns-clause-goes_on : goal.returns-clause-goes_on
returns-clause-goes_on c = λ x r has.
    at_once r c.args.self.now _ has x c.args.deltas.now c.make_each.new.shelf (sym c.if-is_some.ensures) refl c.in-Ok.ensures.defs c.keep.ensures.defs c.in-Ok.ensures.has c.keep.ensures.has
