use Rattle.std.proofs.Common.{◌≡◌, drop}
use Rattle.vdb_model.specs.Defs.{def_of}
use Rattle.vdb_model.proofs.can.server_of.Given as goal

abbrev pub invariant-loop-def : goal.invariant-loop-def
invariant-loop-def l = def_of (drop l.def-index l.defs) l.table ≡ def_of l.fn.defs l.fn.table
