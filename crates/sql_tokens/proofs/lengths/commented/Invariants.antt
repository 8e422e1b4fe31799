use Rattle.std.proofs.Common.{◌≡◌, drop, false}
use Rattle.sql_tokens.specs.Lengths.{commented, further}
use Rattle.sql_tokens.proofs.lengths.commented.Given as goal

abbrev pub invariant-loop-i : goal.invariant-loop-i
invariant-loop-i l = commented false l.rest ≡ further l.i (commented l.star (drop l.i l.rest))
