use Rattle.std.proofs.Common.{◌≡◌, ◌++◌, drop}
use Rattle.resolver.specs.Relations.{tables_named}
use Rattle.resolver.proofs.relations.add_tables.Given as goal

abbrev pub invariant-loop-d : goal.invariant-loop-d
invariant-loop-d l = l.found.items ++ tables_named l.r (drop l.d-index l.tables) ≡ l.initial.found.items ++ tables_named l.r l.tables
