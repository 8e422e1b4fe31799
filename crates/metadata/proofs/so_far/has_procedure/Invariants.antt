use Rattle.std.proofs.Common.{◌≡◌, drop}
use Rattle.std.specs.List.{list_any}
use Rattle.metadata.specs.SoFar.{is_procedure}
use Rattle.metadata.proofs.so_far.has_procedure.Given as goal

abbrev pub invariant-loop-procedure : goal.invariant-loop-procedure
invariant-loop-procedure l = list_any (is_procedure l.schema l.name) (drop l.procedure-index l.procedures) ≡ list_any (is_procedure l.schema l.name) l.procedures
