use Rattle.std.proofs.Common.{drop, Result}
use Rattle.std.specs.Option.{unwrap_or}
use Rattle.resource.specs.declared.resource.AttachFault.{AttachFault}
use Rattle.resource.specs.Checked.{IsCheckAnswer, stored_fault}
use Rattle.resource.proofs.checks.check_tables.Given as goal

-- what the tables that are left answer, all answer
abbrev pub invariant-loop-def : goal.invariant-loop-def
invariant-loop-def l =
    (result : Result (Unit {0}) AttachFault) → IsCheckAnswer (stored_fault (drop l.def-index l.defs) l.kept (unwrap_or l.left l.kept)) result
    → IsCheckAnswer (stored_fault l.defs l.kept (unwrap_or l.left l.kept)) result
