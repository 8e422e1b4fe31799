use Rattle.std.proofs.Common.{◌≡◌}
use Rattle.store_records.specs.declared.entry.Entry.TheVariants.{OnePhase}
use Rattle.store_replay.specs.Replaying.{ReplayHas}
use Rattle.store_replay.proofs.ReplaySteps.{entry_as}
use Rattle.store_replay.proofs.replay.ReplayTakes.take.Goals as goal

pub returns-in-OnePhase-clause-goes_on : goal.returns-in-OnePhase-clause-goes_on
returns-in-OnePhase-clause-goes_on c = λ r has.
    let same : c.args.entry ≡ OnePhase c.in-OnePhase.field-0 c.as_slice-in-OnePhase.result.now = cc in
    entry_as ReplayHas c.args.entry (OnePhase c.in-OnePhase.field-0 c.as_slice-in-OnePhase.result.now) r _ _ same (c.commit_at_once.ensures.goes_on c.in-OnePhase.field-0 r has)
