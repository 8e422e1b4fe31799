use Rattle.std.proofs.Common.{◌++◌, ap, ◌∙◌}
use Rattle.vdb_base.specs.Feeding.{prepended}
use Rattle.vdb.proofs.Taken.{prepended-prepended}
use Rattle.vdb.proofs.reading.read_script.Goals as goal

pub returns-in-Memory : goal.returns-in-Memory
returns-in-Memory g c =
    let turn = c.in-Memory.ensures in
    let before = c.turns.invariant.took in
    record {
      taken = c.turns.bytes.items ++ turn.0;
      took = before.took ∙ ap (prepended c.turns.bytes.items) turn.1.took ∙ prepended-prepended c.turns.bytes.items turn.0 _;
      ends = turn.1.count ∙ before.count;
    }
