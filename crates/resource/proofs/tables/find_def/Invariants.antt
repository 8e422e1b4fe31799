use Rattle.std.proofs.Common.{◌≡◌, drop}
use Rattle.vdb_model.specs.Defs.{def_of, is_defined}
use Rattle.resource.proofs.tables.find_def.Given as goal

-- the definition is among those that are left
abbrev pub invariant-loop-def : goal.invariant-loop-def
invariant-loop-def l = (def_of (drop l.def-index l.defs) l.number ≡ def_of l.defs l.number) × (is_defined (drop l.def-index l.defs) l.number ≡ is_defined l.defs l.number)
