use Rattle.std.proofs.Common.{◌≡◌, ◌++◌, ◌∷◌, length, IsUtf8}
use Rattle.std.specs.String.{string_bytes}
use Rattle.vdb_base.specs.Print.{doubled}
use Rattle.sql_printer.proofs.names.quote.Given as goal

-- what is made, and what is left of the name, with its quotes doubled
abbrev pub invariant-loop-head : goal.invariant-loop-head
invariant-loop-head l = (string_bytes l.made ++ doubled 34 l.rest ≡ 34 ∷ doubled 34 l.fn.name) × IsUtf8 l.rest

abbrev pub decreases-loop-head : goal.decreases-loop-head
decreases-loop-head l = length l.rest
