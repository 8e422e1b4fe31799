use Rattle.std.proofs.Common.{◌≡◌, true, refl, arith}
use Rattle.std.proofs.lemmas.Grind.{common_steps}
use Rattle.store_replay.specs.Replaying.{waits_for}
use Rattle.store_replay.proofs.ReplaySteps.{committed_as}
use Rattle.store_replay.proofs.replay.Replay.end.Goals as goal

pub returns-in-Committed-clause-goes_on : goal.returns-in-Committed-clause-goes_on
returns-in-Committed-clause-goes_on c = λ r has.
    let waits : waits_for c.args.self.now.waiting c.args.x ≡ true = first_of (cc, grind (arith, common_steps)) in
    committed_as r c.args.self.now _ has c.args.ending c.args.x c.in-Committed.is waits refl c.keep.ensures.defs c.keep.ensures.has
