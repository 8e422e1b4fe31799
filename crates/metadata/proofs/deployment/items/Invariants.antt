use Rattle.std.proofs.Common.{◌≡◌, drop}
use Rattle.metadata.specs.Deployed.{items}
use Rattle.metadata.specs.Sound.{IsSound}
use Rattle.metadata.proofs.deployment.items.Given as goal

abbrev pub invariant-loop-each : goal.invariant-loop-each
invariant-loop-each g l = (items (g.W.ViewWalk.walk l.walk) l.conns l.s (drop l.each-index l.items) ≡ items (g.W.ViewWalk.walk l.walk) l.conns l.fn.s l.items) × IsSound l.s
