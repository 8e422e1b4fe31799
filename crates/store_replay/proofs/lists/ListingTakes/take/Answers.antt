use Rattle.std.proofs.Common.{◌≡◌, List, Result, Ok, Err, sym, subst}
use Rattle.resource.specs.Stored.{after_stored}
use Rattle.resource.specs.declared.stored.StoredDelta.{StoredDelta}
use Rattle.store_records.specs.declared.entry.Entry.TheVariants.{Committed, RolledBack, OnePhase}
use Rattle.store_records.specs.declared.reading.ReadFault.{ReadFault}
use Rattle.store_replay.specs.Listing.{ListingHas}
use Rattle.store_replay.specs.Replay.{after_entry}
use Rattle.store_replay.specs.Walking.{Follows}
use Rattle.store_replay.proofs.ReplaySteps.{entry_as}
use Rattle.store_replay.proofs.ListSteps.{listed_committed, listed_rolled_back, listed_refused}
use Rattle.store_replay.proofs.lists.ListingTakes.take.Goals as goal
use Rattle.store_replay.proofs.lists.ListingTakes.take.Goals.{in-Ok-ended, in-Err-ended}

pub returns-in-OnePhase-clause-goes_on : goal.returns-in-OnePhase-clause-goes_on
returns-in-OnePhase-clause-goes_on c = λ r has.
    let same : c.args.entry ≡ OnePhase c.in-OnePhase.field-0 c.as_slice.result.now = cc in
    entry_as ListingHas c.args.entry (OnePhase c.in-OnePhase.field-0 c.as_slice.result.now) r c.change.new.self c.change.result same (c.change.ensures c.in-OnePhase.field-0 r has)

pub returns-in-Ok-clause-goes_on : goal.returns-in-Ok-clause-goes_on
returns-in-Ok-clause-goes_on c = λ r has.
    let x = c.in-Committed.x in
    let mid = c.ended.new.self in
    let new = c.change-in-Ok.new.self in
    let result = c.change-in-Ok.result in
    let same : c.args.entry ≡ Committed x = cc in
    entry_as ListingHas c.args.entry (Committed x) r new result same
    (listed_committed r x mid new c.in-Ok.held result (c.in-Ok.ensures r has)
    (λ y s held. subst (λ (ds : List StoredDelta). Follows ListingHas (after_entry (OnePhase y ds) s) new result) c.as_slice-in-Ok.ensures (c.change-in-Ok.ensures y s held)))

pub returns-in-Err-clause-goes_on : goal.returns-in-Err-clause-goes_on
returns-in-Err-clause-goes_on c = λ r has.
    let x = c.in-Committed.x in
    let new = c.ended.new.self in
    let same : c.args.entry ≡ Committed x = cc in
    entry_as ListingHas c.args.entry (Committed x) r new (Err c.in-Err.fault) same (listed_refused r x new new (λ deltas. after_stored r.tables deltas) c.in-Err.fault (c.in-Err.ensures r has))

pub returns-after-ended-2-clause-goes_on : goal.returns-after-ended-2-clause-goes_on
returns-after-ended-2-clause-goes_on c = λ r has.
    let x = c.in-RolledBack.x in
    let new = c.ended-in-RolledBack.new.self in
    let same : c.args.entry ≡ RolledBack x = cc in
    elim c.match-ended-2.branch [
      | in-Ok-ended w ↦ subst (λ (result : Result (Unit {0}) ReadFault). Follows ListingHas (after_entry c.args.entry r) new result) (sym w.result-is)
          (entry_as ListingHas c.args.entry (RolledBack x) r new (Ok tt) same (listed_rolled_back r x new _ (w.in-Ok-ended.ensures r has)))
      | in-Err-ended w ↦ subst (λ (result : Result (Unit {0}) ReadFault). Follows ListingHas (after_entry c.args.entry r) new result) (sym w.result-is)
          (entry_as ListingHas c.args.entry (RolledBack x) r new (Err w.in-Err-ended.fault) same (listed_refused r x new new (λ deltas. r.tables) w.in-Err-ended.fault (w.in-Err-ended.ensures r has)))
    ]
