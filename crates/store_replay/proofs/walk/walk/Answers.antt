use Rattle.std.proofs.Common.{refl, arith}
use Rattle.gate_log.specs.Log.{IsOpenAt}
use Rattle.gate_log.proofs.Told.{told_map}
use Rattle.store_replay.specs.Replay.{nothing}
use Rattle.store_replay.proofs.WalkSteps.{taken_none}
use Rattle.store_replay.proofs.walk.walk.Goals as goal

pub records-init : goal.records-init
records-init g c =
    let log = c.args.log.now in
    record {
      told = refl;
      stops = record { within = λ content h. h; keeps = λ content h. h };
      ready = c.requires.ready;
      left = refl;
      under = refl;
      few = omega arith;
      taken = (nothing, c.requires.blank);
      so_far = told_map (g.D.Disk.told log.disk).bytes (IsOpenAt log.end (g.D.Disk.images log.disk)) _ (λ bytes opened. taken_none g.T.Takes.has bytes log.end c.args.state.now opened.ends c.requires.blank) c.requires.ready;
    }
