use Rattle.std.proofs.Common.{◌≡◌, drop}
use Rattle.std.specs.List.{list_any}
use Rattle.metadata.specs.Deployed.{is_served}
use Rattle.metadata.proofs.deployment.serves.Given as goal

abbrev pub invariant-loop-server : goal.invariant-loop-server
invariant-loop-server l = list_any (is_served l.conn) (drop l.server-index l.servers) ≡ list_any (is_served l.conn) l.servers
