use Rattle.std.proofs.Common.{◌≡◌, ◌-◌, ◌≤◌, IfSome}
use Rattle.gate_log.specs.Log.{IsOpen, left_of}
use Rattle.gate_log.specs.Stops.{Same}
use Rattle.store_replay.specs.Replay.{Replayed}
use Rattle.store_replay.specs.Walking.{TakenTo}
use Rattle.store_replay.proofs.walk.walk.Given as goal

-- the log is as before, and the records up to this gate are taken
abbrev pub invariant-records : goal.invariant-records
invariant-records g l = record {
  told : g.D.Disk.told l.log.disk ≡ g.D.Disk.told l.initial.log.disk;
  stops : Same (g.D.Disk.images l.initial.log.disk) (g.D.Disk.images l.log.disk);
  ready : IsOpen g.D.Disk.told g.D.Disk.images l.log;
  left : left_of l.log ≡ left_of l.initial.log;
  under : g.T.Takes.under l.state ≡ g.T.Takes.under l.initial.state;
  few : l.place.taken ≤ l.place.at;
  taken : (r : Replayed) × g.T.Takes.has r l.state;
  so_far : IfSome (g.D.Disk.told l.log.disk).bytes (TakenTo g.T.Takes.has l.place l.state);
}

abbrev pub decreases-records : goal.decreases-records
decreases-records g l = 268435456 - l.place.at
