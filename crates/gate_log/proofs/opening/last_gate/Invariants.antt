use Rattle.std.proofs.Common.{◌≡◌, ◌-◌, ◌<◌, IfSome}
use Rattle.gate_log.specs.Stops.{Same}
use Rattle.gate_log.specs.Scanning.{Walked}
use Rattle.gate_log.proofs.opening.last_gate.Given as goal

-- the disk is as before, and the bytes up to this gate are records
abbrev pub invariant-gates : goal.invariant-gates
invariant-gates g l = record {
  within : l.gate < l.len;
  told : g.D.Disk.told l.disk ≡ g.D.Disk.told l.initial.disk;
  stops : Same (g.D.Disk.images l.initial.disk) (g.D.Disk.images l.disk);
  walked : IfSome (g.D.Disk.told l.initial.disk).bytes (Walked l.gate);
}

abbrev pub decreases-gates : goal.decreases-gates
decreases-gates g l = l.len - l.gate
