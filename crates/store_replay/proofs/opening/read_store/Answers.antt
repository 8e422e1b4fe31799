use Rattle.std.proofs.Common.{◌≡◌, ℕ, List, Some, ap, subst, ◌∙◌}
use Rattle.gate_log.specs.Disk.{DiskTold}
use Rattle.gate_log.specs.Log.{left_of}
use Rattle.gate_log.proofs.Told.{if_told, at_told, told_map}
use Rattle.vdb_model.specs.declared.table.TableDef.{TableDef}
use Rattle.store_replay.specs.OpeningStore.{ReplaysSo, OpensSo, NamesFault}
use Rattle.store_replay.proofs.OpenSteps.{is_opened, opens_so, opens_fault}
use Rattle.store_replay.proofs.opening.read_store.Goals as goal

pub returns-then-is_in_order-clause-answer : goal.returns-then-is_in_order-clause-answer
returns-then-is_in_order-clause-answer g c =
    let opened = c.in-Ok.opened in
    told_map (g.D.Disk.told c.args.log.now.disk).bytes (λ (b : List ℕ). ReplaysSo opened b) (λ (b : List ℕ). OpensSo c.args.defs opened b)
    (λ bytes h. opens_so c.args.defs opened bytes c.in-Ok.ensures.replayed.defs_are c.if-is_in_order.ensures h) c.in-Ok.ensures.answer

pub returns-then-is_in_order-clause-opened : goal.returns-then-is_in_order-clause-opened
returns-then-is_in_order-clause-opened g c =
    is_opened c.args.defs (left_of c.replayed.new.log) c.in-Ok.opened c.in-Ok.ensures.replayed c.if-is_in_order.ensures

pub returns-clause-answer : goal.returns-clause-answer
returns-clause-answer g c =
    let told = (g.D.Disk.told c.args.log.now.disk).bytes in
    let opened = c.in-Ok.opened in
    let is = c.in-Ok.ensures.replayed.defs_are in
    if_told told _ (λ (bytes : List ℕ) (e : told ≡ Some bytes).
    let replays = at_told told bytes (λ (b : List ℕ). ReplaysSo opened b) e c.in-Ok.ensures.answer in
    let still = ap (λ (t : DiskTold). t.bytes) c.in-Ok.ensures.leaves ∙ e in
    let names = at_told (g.D.Disk.told c.replayed.new.log.disk).bytes bytes (NamesFault c.defs.result.now c.fault_of.result) still c.fault_of.ensures.answer in
    opens_fault c.args.defs opened bytes c.requires.apart is c.if-is_in_order.ensures replays c.fault_of.result
    (subst (λ (ds : List TableDef). NamesFault ds c.fault_of.result bytes) (c.defs.ensures ∙ is) names))
