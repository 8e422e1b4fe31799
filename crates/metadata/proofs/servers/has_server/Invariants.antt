use Rattle.std.proofs.Common.{◌≡◌, drop}
use Rattle.std.specs.List.{list_any}
use Rattle.metadata.specs.Servers.{is_server}
use Rattle.metadata.proofs.servers.has_server.Given as goal

abbrev pub invariant-loop-server : goal.invariant-loop-server
invariant-loop-server l = list_any (is_server l.name) (drop l.server-index l.servers) ≡ list_any (is_server l.name) l.servers
