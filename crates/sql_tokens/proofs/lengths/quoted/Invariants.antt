use Rattle.std.proofs.Common.{◌≡◌, drop, false}
use Rattle.sql_tokens.specs.Lengths.{quoted, further}
use Rattle.sql_tokens.proofs.lengths.quoted.Given as goal

abbrev pub invariant-loop-i : goal.invariant-loop-i
invariant-loop-i l = quoted l.quote false l.rest ≡ further l.i (quoted l.quote l.shut (drop l.i l.rest))
