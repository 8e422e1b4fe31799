use Rattle.std.proofs.Common.{◌≡◌, drop}
use Rattle.resource.specs.Stored.{number_named}
use Rattle.store_tables.proofs.place.number_named.Given as goal

-- none so far has the name
abbrev pub invariant-loop-def : goal.invariant-loop-def
invariant-loop-def l = number_named l.source (drop l.def-index l.defs) ≡ number_named l.source l.defs
