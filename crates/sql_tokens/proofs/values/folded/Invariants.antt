use Rattle.std.proofs.Common.{◌≡◌, ◌++◌, drop}
use Rattle.sql_tokens.specs.Values.{folded}
use Rattle.sql_tokens.proofs.values.folded.Given as goal

abbrev pub invariant-loop-b : goal.invariant-loop-b
invariant-loop-b l = l.made.items ++ folded (drop l.b-index l.bytes) ≡ folded l.bytes
