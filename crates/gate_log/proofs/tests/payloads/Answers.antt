use Rattle.std.proofs.Common.{ℕ, List, arith}
use Rattle.gate_log.specs.Log.{IsOpenAt}
use Rattle.gate_log.specs.Walking.{IsGate}
use Rattle.gate_log.proofs.Told.{told_map}
use Rattle.gate_log.proofs.Walks.{first_gate}
use Rattle.gate_log.proofs.tests.payloads.Goals as goal

pub loop-init : goal.loop-init
loop-init g c =
    let ready = IsOpenAt c.args.log.now.end (g.D.Disk.images c.args.log.now.disk) in
    record {
      used = omega arith;
      ready = c.requires;
      gate = told_map _ ready (IsGate 8) (λ (bytes : List ℕ) (o : ready bytes). first_gate bytes c.args.log.now.end o.ends) c.requires;
    }
