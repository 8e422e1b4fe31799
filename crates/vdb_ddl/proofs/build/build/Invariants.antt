use Rattle.std.proofs.Common.{◌≡◌, drop}
use Rattle.vdb_ddl.specs.Build as spec
use Rattle.vdb_ddl.specs.Waiting.{none}
use Rattle.vdb_ddl.proofs.build.build.Given as goal

abbrev pub invariant-loop-event : goal.invariant-loop-event
invariant-loop-event l = spec.build l.source (drop l.event-index l.log) (spec.waiting l.parts) ≡ spec.build l.source l.log none
