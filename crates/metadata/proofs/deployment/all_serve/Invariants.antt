use Rattle.std.proofs.Common.{◌≡◌, drop}
use Rattle.metadata.specs.Deployed.{unserved}
use Rattle.metadata.proofs.deployment.all_serve.Given as goal

abbrev pub invariant-loop-conn : goal.invariant-loop-conn
invariant-loop-conn l = unserved l.servers (drop l.conn-index l.conns) ≡ unserved l.servers l.conns
