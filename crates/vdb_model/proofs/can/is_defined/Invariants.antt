use Rattle.std.proofs.Common.{◌≡◌, drop}
use Rattle.vdb_model.specs.Defs.{is_defined}
use Rattle.vdb_model.proofs.can.is_defined.Given as goal

abbrev pub invariant-loop-def : goal.invariant-loop-def
invariant-loop-def l = is_defined (drop l.def-index l.defs) l.table ≡ is_defined l.fn.defs l.fn.table
