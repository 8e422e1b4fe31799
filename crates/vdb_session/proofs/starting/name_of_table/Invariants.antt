use Rattle.std.proofs.Common.{◌≡◌, drop}
use Rattle.vdb_model.specs.Defs.{def_of}
use Rattle.vdb_session.proofs.starting.name_of_table.Given as goal

abbrev pub invariant-loop-def : goal.invariant-loop-def
invariant-loop-def l = def_of (drop l.def-index l.tables) l.number ≡ def_of l.fn.tables l.fn.number
