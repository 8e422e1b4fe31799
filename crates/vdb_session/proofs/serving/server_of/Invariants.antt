use Rattle.std.proofs.Common.{◌≡◌, drop}
use Rattle.vdb_session.specs.Shown.{server_from}
use Rattle.vdb_session.proofs.serving.server_of.Given as goal

abbrev pub invariant-loop-number : goal.invariant-loop-number
invariant-loop-number l = server_from l.number (drop l.number l.servers) l.name ≡ server_from 0 l.servers l.name
