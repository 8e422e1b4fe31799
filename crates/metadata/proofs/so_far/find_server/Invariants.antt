use Rattle.std.proofs.Common.{◌≡◌, drop}
use Rattle.metadata.specs.SoFar.{server_named}
use Rattle.metadata.proofs.so_far.find_server.Given as goal

abbrev pub invariant-loop-at : goal.invariant-loop-at
invariant-loop-at l = server_named l.at (drop l.at l.servers) l.name ≡ server_named 0 l.fn.servers l.fn.name
