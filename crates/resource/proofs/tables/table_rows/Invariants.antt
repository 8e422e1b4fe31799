use Rattle.std.proofs.Common.{◌≡◌, drop}
use Rattle.resource.specs.Checked.{rows_numbered}
use Rattle.resource.proofs.tables.table_rows.Given as goal

-- the definition is among those that are left
abbrev pub invariant-loop-def : goal.invariant-loop-def
invariant-loop-def l = rows_numbered l.number l.stored (drop l.def-index l.defs) ≡ rows_numbered l.number l.stored l.defs
