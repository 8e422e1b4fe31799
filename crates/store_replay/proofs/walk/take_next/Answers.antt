use Rattle.std.proofs.Common.{◌≡◌, List, ℕ, Some, refl, ap, ◌∙◌}
use Rattle.gate_log.specs.Disk.{DiskTold}
use Rattle.gate_log.specs.Walking.{FoundRecord}
use Rattle.gate_log.proofs.Told.{if_told, at_told}
use Rattle.store_replay.specs.Walking.{Spans, TakenTo}
use Rattle.store_replay.proofs.WalkSteps.{steps_fault, steps_on}
use Rattle.store_replay.proofs.walk.take_next.Goals as goal

pub returns-in-Err-payload_in-clause-answer : goal.returns-in-Err-payload_in-clause-answer
returns-in-Err-payload_in-clause-answer g c =
    if_told (g.D.Disk.told c.args.log.now.disk).bytes _ (λ bytes e. steps_fault g.T.Takes.has c.args.place c.args.state.now c.in-Err-payload_in.fault bytes c.in-Err-payload_in.ensures.fault)

pub returns-in-Ok-take_payload-clause-answer : goal.returns-in-Ok-take_payload-clause-answer
returns-in-Ok-take_payload-clause-answer g c =
    let told = (g.D.Disk.told c.args.log.now.disk).bytes in
    let span = c.in-Ok-Some.span in
    let found = c.in-Ok.payload.items in
    if_told told _ (λ (bytes : List ℕ) (e : told ≡ Some bytes).
    let so_far = at_told told bytes (TakenTo g.T.Takes.has c.args.place c.args.state.now) e c.requires.so_far in
    let record_at = at_told told bytes (FoundRecord c.args.place.at span) e (rw c.in-Ok-Some.field-0-is at c.in-Ok-Some.ensures.answer) in
    let still = ap (λ (t : DiskTold). t.bytes) c.in-Ok-Some.ensures.leaves ∙ e in
    let exact = at_told (g.D.Disk.told c.next.new.self.disk).bytes bytes (λ b. (payload : List ℕ) → Spans span payload b → found ≡ payload) still c.in-Ok.ensures.answer in
    steps_on g.T.Takes.has c.args.place c.args.state.now c.take_payload.new.state bytes so_far span record_at c.as_slice.result.now found c.as_slice.ensures.value exact _ refl refl c.in-Ok-take_payload.ensures.goes_on)
