use Rattle.std.proofs.Common.{◌≡◌, Some}
use Rattle.resource.specs.MemResource.{mem_told}
use Rattle.resource.proofs.tests.run.Given as goal

-- it stays attached
abbrev pub invariant-loop-step : goal.invariant-loop-step
invariant-loop-step l = (mem_told l.resource).defs ≡ Some l.defs
