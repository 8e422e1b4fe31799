use Rattle.std.proofs.Common.{◌≤◌, IfSome}
use Rattle.gate_log.specs.Log.{IsOpen}
use Rattle.gate_log.specs.Walking.{IsGate}
use Rattle.gate_log.proofs.tests.payloads.Given as goal

-- the log is open and a gate stands at the place; the buffer has room
abbrev pub invariant-loop : goal.invariant-loop
invariant-loop g l = record {
  used : l.used ≤ 32;
  ready : IsOpen g.D.Disk.told g.D.Disk.images l.log;
  gate : IfSome (g.D.Disk.told l.log.disk).bytes (IsGate l.at);
}
