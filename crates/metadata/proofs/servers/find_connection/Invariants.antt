use Rattle.std.proofs.Common.{◌≡◌, drop}
use Rattle.metadata.specs.Servers.{connection_named}
use Rattle.metadata.proofs.servers.find_connection.Given as goal

abbrev pub invariant-loop-conn : goal.invariant-loop-conn
invariant-loop-conn l = connection_named (drop l.conn-index l.conns) l.name ≡ connection_named l.conns l.name
