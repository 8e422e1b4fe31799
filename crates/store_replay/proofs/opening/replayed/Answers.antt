use Rattle.std.proofs.Common.{◌≡◌, ◌+◌, ◌-◌, ℕ, List, true, false, Some, Err, IfSome, refl, sym, ap, subst, ◌∙◌, arith}
use Rattle.std.proofs.lemmas.Grind.{common_steps}
use Rattle.gate_log.specs.Disk.{DiskTold}
use Rattle.gate_log.specs.Log.{IsOpenAt}
use Rattle.gate_log.specs.Records.{log_limit}
use Rattle.gate_log.proofs.Told.{if_told, at_told, told_map}
use Rattle.store_replay.specs.OpeningStore.{ReplaysAs, attach_fault, has_room}
use Rattle.store_replay.specs.Replaying.{ReplayHas}
use Rattle.store_replay.specs.Walking.{TakesAll, Walks}
use Rattle.store_replay.proofs.OpenSteps.{replay_refused, without_room, replays_so}
use Rattle.store_replay.proofs.opening.replayed.Goals as goal

pub returns-in-Err-clause-answer : goal.returns-in-Err-clause-answer
returns-in-Err-clause-answer g c =
    let told = (g.D.Disk.told c.args.log.now.disk).bytes in
    let refused : IfSome told (ReplaysAs (Err (attach_fault c.in-Err.fault))) = told_map told (Walks ReplayHas c.walk.new.state (Err c.in-Err.fault)) _ (replay_refused c.in-Err.fault c.walk.new.state) c.in-Err.ensures.answer in
    subst (λ f. IfSome told (ReplaysAs (Err f))) (sym c.attach_fault.ensures) refused

pub returns-then-not-has_room-clause-answer : goal.returns-then-not-has_room-clause-answer
returns-then-not-has_room-clause-answer g c =
    let told = (g.D.Disk.told c.args.log.now.disk).bytes in
    let log = c.walk.new.log in
    let cannot : has_room c.walk.new.state.waiting (log_limit - (log.end + 1)) ≡ false = first_of (cc, grind (arith, common_steps)) in
    if_told told _ (λ (bytes : List ℕ) (e : told ≡ Some bytes).
    let still = ap (λ (t : DiskTold). t.bytes) c.in-Ok-walk.ensures.leaves ∙ e in
    let opened = at_told (g.D.Disk.told log.disk).bytes bytes (IsOpenAt log.end (g.D.Disk.images log.disk)) still c.in-Ok-walk.ensures.ready in
    let taken = at_told told bytes (TakesAll ReplayHas c.in-Ok-walk.records c.walk.new.state) e c.in-Ok-walk.ensures.answer in
    (refl, without_room bytes log.end (g.D.Disk.images log.disk) opened c.in-Ok-walk.records c.walk.new.state taken cannot))

pub returns-clause-answer : goal.returns-clause-answer
returns-clause-answer g c =
    let told = (g.D.Disk.told c.args.log.now.disk).bytes in
    let log = c.walk.new.log in
    let can : has_room c.walk.new.state.waiting (log_limit - (log.end + 1)) ≡ true = first_of (cc, grind (arith, common_steps)) in
    if_told told _ (λ (bytes : List ℕ) (e : told ≡ Some bytes).
    let still = ap (λ (t : DiskTold). t.bytes) c.in-Ok-walk.ensures.leaves ∙ e in
    let opened = at_told (g.D.Disk.told log.disk).bytes bytes (IsOpenAt log.end (g.D.Disk.images log.disk)) still c.in-Ok-walk.ensures.ready in
    let taken = at_told told bytes (TakesAll ReplayHas c.in-Ok-walk.records c.walk.new.state) e c.in-Ok-walk.ensures.answer in
    replays_so bytes log.end (g.D.Disk.images log.disk) opened c.in-Ok-walk.records c.walk.new.state taken can)
