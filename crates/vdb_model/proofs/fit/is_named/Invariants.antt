use Rattle.std.proofs.Common.{◌≡◌, drop}
use Rattle.std.specs.List.{list_any}
use Rattle.vdb_model.specs.Defs.{same_source}
use Rattle.vdb_model.proofs.fit.is_named.Given as goal

abbrev pub invariant-loop-def : goal.invariant-loop-def
invariant-loop-def l = list_any (same_source l.source) (drop l.def-index l.defs) ≡ list_any (same_source l.fn.source) l.fn.defs
